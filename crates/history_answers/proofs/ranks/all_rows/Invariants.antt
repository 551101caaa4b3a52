use Rattle.std.proofs.Common.{◌≡◌, ◌++◌, map, length}
use Rattle.std.specs.Arc.{arc_value}
use Rattle.history_answers.specs.Kept.{rows_of}
use Rattle.history_answers.proofs.ranks.all_rows.Given as goal

abbrev pub invariant-loop-test : goal.invariant-loop-test
invariant-loop-test l = map arc_value l.all.items ++ rows_of l.rest ≡ rows_of l.tests

abbrev pub decreases-loop-test : goal.decreases-loop-test
decreases-loop-test l = length l.rest
