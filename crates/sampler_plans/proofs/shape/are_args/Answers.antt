use Rattle.cov_counting.specs.Tables.{arg_row}
use Rattle.std.proofs.Common.{arith, refl}
use Rattle.sampler_plans.proofs.Tables.{row_more}
use Rattle.sampler_plans.proofs.shape.are_args.Goals as goal

pub loop-at-preserved : goal.loop-at-preserved
loop-at-preserved c = row_more arg_row c.args.args.now c.args.rows.now c.loop-at.at c.index-args-at.result _ c.loop-at-test.true (omega arith) c.index-args-at.is (c.if-not-is_arg.ensures.0 refl) c.loop-at.invariant
