use Rattle.std.specs.Prelude.{◌==◌}
use Rattle.elab_order.proofs.Steps.{load_more}
use Rattle.elab_order.proofs.numbers.bins_of_group.Goals as goal

pub loop-load-preserved : goal.loop-load-preserved
loop-load-preserved c = load_more _ _ _ (λ g. g == c.args.group) _ c.part_of_group-bins.result c.loop-load.invariant c.loop-load-test.true c.part_of_group-bins.ensures.value c.part_of_group-bins.ensures.bound
