-- the rows passed are those of the arguments passed
use Rattle.std.proofs.Common.{◌≡◌, map, take}
use Rattle.cov_counting.specs.Tables.{arg_row}
use Rattle.sampler_plans.proofs.shape.are_args.Given as goal

abbrev pub invariant-loop-at : goal.invariant-loop-at
invariant-loop-at l = take l.at l.rows ≡ take l.at (map arg_row l.args)
