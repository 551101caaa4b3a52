use Rattle.std.proofs.Common.{◌∙◌, sym}
use Rattle.value_index.proofs.Counted.{cuts_between}
use Rattle.value_index.proofs.room.cuts_in.Goals as goal

pub returns : goal.returns
returns c = c.saturating_sub.ensures ∙ sym (cuts_between c.args.cuts.now c.args.span.now c.first_from-from.result c.segment-to.result c.requires.ascends c.first_from-from.ensures.below c.first_from-from.ensures.above c.segment-to.ensures)
