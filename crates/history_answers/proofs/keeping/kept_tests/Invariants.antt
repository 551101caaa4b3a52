use Rattle.std.proofs.Common.{◌≡◌, ◌+◌, ◌++◌, length}
use Rattle.history_answers.specs.Kept.{kept_from}
use Rattle.history_answers.proofs.keeping.kept_tests.Given as goal

abbrev pub invariant-loop-entry : goal.invariant-loop-entry
invariant-loop-entry l = record {
  so_far : l.tests.items ++ kept_from l.design l.point l.rest ≡ kept_from l.design 0 l.entries;
  counted : l.point + length l.rest ≡ length l.entries;
}

abbrev pub decreases-loop-entry : goal.decreases-loop-entry
decreases-loop-entry l = length l.rest
