-- the tables agree so far
use Rattle.std.proofs.Common.{◌≡◌, ◌≤◌, length, take}
use Rattle.cov_counting.specs.Tables.{instances_of}
use Rattle.sampler_plans.proofs.shape.differing_instance.Given as goal

abbrev pub invariant-loop-at : goal.invariant-loop-at
invariant-loop-at l = record { same : take l.at l.rows ≡ take l.at (instances_of l.design l.version); within : l.at ≤ length l.rows }
