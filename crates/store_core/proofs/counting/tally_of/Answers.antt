use Rattle.std.proofs.Common.{◌∙◌}
use Rattle.store_core.proofs.Tallied.{rows_are}
use Rattle.store_core.proofs.counting.tally_of.Goals as goal

pub returns : goal.returns
returns c = c.in_ok-shared.ensures.ok ∙ rows_are c.args.design.now c.args.content.now c.in_ok-tally.tally c.in_ok-tally.ensures
