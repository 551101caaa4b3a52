use Rattle.std.proofs.Common.{◌≡◌, ◌++◌, take}
use Rattle.std.specs.List.{flat_map}
use Rattle.cov_report.specs.Lines.{test_line}
use Rattle.cov_report.proofs.tests.append_tests.Given as goal

abbrev pub invariant-loop-test : goal.invariant-loop-test
invariant-loop-test l = l.text.items ≡ l.initial.text.items ++ flat_map (λ row. test_line row.point row.status row.id) (take l.test-index l.tests)
