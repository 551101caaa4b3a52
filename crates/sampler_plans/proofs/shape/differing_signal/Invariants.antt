-- the tables agree so far
use Rattle.std.proofs.Common.{◌≡◌, ◌≤◌, length, map, take}
use Rattle.cov_counting.specs.Tables.{signal_row}
use Rattle.sampler_plans.proofs.shape.differing_signal.Given as goal

abbrev pub invariant-loop-at : goal.invariant-loop-at
invariant-loop-at l = record { same : take l.at l.rows ≡ take l.at (map signal_row l.signals); within : l.at ≤ length l.rows }
