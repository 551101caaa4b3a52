-- Each turn takes a place off the list.
use Rattle.std.specs.Prelude.{vec_len}
use Rattle.cov_workers.proofs.workers.give_up.Given as goal

abbrev pub invariant-loop-place : goal.invariant-loop-place
invariant-loop-place g l = Unit {0}

abbrev pub decreases-loop-place : goal.decreases-loop-place
decreases-loop-place g l = vec_len l.seats
