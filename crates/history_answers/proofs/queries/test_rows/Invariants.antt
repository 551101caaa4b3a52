use Rattle.std.proofs.Common.{◌≡◌, ◌++◌, map, length}
use Rattle.history_answers.proofs.queries.test_rows.Given as goal

abbrev pub invariant-loop-test : goal.invariant-loop-test
invariant-loop-test l = l.rows.items ++ map (λ test. test.row) l.rest ≡ map (λ test. test.row) l.tests

abbrev pub decreases-loop-test : goal.decreases-loop-test
decreases-loop-test l = length l.rest
