use Rattle.std.proofs.Common.{◌≡◌, length}
use Rattle.std.specs.Prelude.{find, bytes_eq}
use Rattle.history_answers.proofs.keeping.of_id.Given as goal

abbrev pub invariant-loop-test : goal.invariant-loop-test
invariant-loop-test l = find (λ test. bytes_eq l.id test.row.id) l.rest ≡ find (λ test. bytes_eq l.id test.row.id) l.tests

abbrev pub decreases-loop-test : goal.decreases-loop-test
decreases-loop-test l = length l.rest
