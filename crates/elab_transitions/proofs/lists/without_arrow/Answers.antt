use Rattle.elab_transitions.proofs.Arrows.{behind_arrow, no_arrow}
use Rattle.elab_transitions.proofs.lists.without_arrow.Goals as goal

pub returns-in_default : goal.returns-in_default
returns-in_default c = no_arrow c.args.text.now c.in_default.len_below

pub returns-in-len2-up : goal.returns-in-len2-up
returns-in-len2-up c = behind_arrow c.args.text.now
