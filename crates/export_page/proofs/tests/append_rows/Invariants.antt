use Rattle.std.proofs.Common.{◌≡◌, ◌++◌, drop}
use Rattle.markup.specs.Trees.{each, markup_text}
use Rattle.export_page.specs.Page.{test_row}
use Rattle.export_page.proofs.tests.append_rows.Given as goal

abbrev pub invariant-loop-test : goal.invariant-loop-test
invariant-loop-test l = l.text.items ++ markup_text (each test_row (drop l.test-index l.tests)) ≡ l.fn.text.items ++ markup_text (each test_row l.tests)
