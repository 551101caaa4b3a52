use Rattle.std.specs.Prelude.{nat_lt}
use Rattle.elab_order.proofs.Steps.{load_more}
use Rattle.elab_order.proofs.numbers.bins_before.Goals as goal

pub loop-load-preserved : goal.loop-load-preserved
loop-load-preserved c = load_more _ _ _ (λ g. nat_lt g c.args.group) _ c.part_before-bins.result c.loop-load.invariant c.loop-load-test.true c.part_before-bins.ensures.value c.part_before-bins.ensures.bound
