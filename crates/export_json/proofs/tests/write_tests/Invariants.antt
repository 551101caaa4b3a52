use Rattle.std.proofs.Common.{◌≡◌, ◌++◌, take}
use Rattle.json_text.specs.Values.{all_tokens}
use Rattle.export_json.specs.Export.{test_value}
use Rattle.export_json.proofs.tests.write_tests.Given as goal

abbrev pub invariant-loop-test : goal.invariant-loop-test
invariant-loop-test l = l.out ≡ l.initial.out ++ all_tokens test_value (take l.test-index l.tests)
