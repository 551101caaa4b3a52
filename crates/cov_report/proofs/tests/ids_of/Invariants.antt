use Rattle.std.proofs.Common.{◌≡◌, map, take}
use Rattle.cov_report.proofs.tests.ids_of.Given as goal

abbrev pub invariant-loop-test : goal.invariant-loop-test
invariant-loop-test l = l.ids.items ≡ map (λ row. row.id) (take l.test-index l.tests)
