use Rattle.std.proofs.Common.{arith}
use Rattle.std.proofs.lemmas.Grind.{common_steps}
use Rattle.waivers.proofs.Filled.{nothing_row}
use Rattle.waivers.proofs.rows.begin_row.Goals as goal

pub returns : goal.returns
returns c = nothing_row c.args.path.now c.push.new.self.items (grind (arith, common_steps, c.in_ok-push.ensures.items, c.in_ok-resize.ensures.items, c.clear.ensures.items))
