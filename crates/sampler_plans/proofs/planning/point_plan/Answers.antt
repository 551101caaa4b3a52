use Rattle.sampler_plans.proofs.Points.{is_point}
use Rattle.sampler_plans.proofs.planning.point_plan.Goals as goal

pub new-requires : goal.new-requires
new-requires c = is_point c.args.items.now c.args.item.now c.args.expr.now c.requires.item c.requires.shape
