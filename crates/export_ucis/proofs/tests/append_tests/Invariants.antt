use Rattle.std.proofs.Common.{◌≡◌, ◌+◌, ◌++◌, drop}
use Rattle.markup.specs.Trees.{markup_text}
use Rattle.export_ucis.specs.Tests.{test_nodes}
use Rattle.export_ucis.proofs.tests.append_tests.Given as goal

-- what is written, and what is left, are the whole
abbrev pub invariant-loop-place : goal.invariant-loop-place
invariant-loop-place l =
    l.text.items ++ markup_text (test_nodes (l.place + 1) (drop l.place l.tests)) ≡ l.initial.text.items ++ markup_text (test_nodes 1 l.tests)
