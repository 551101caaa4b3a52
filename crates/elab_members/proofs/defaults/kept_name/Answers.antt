use Rattle.std.proofs.Common.{◌∙◌}
use Rattle.elab_members.proofs.Numbered.{kept_numbered}
use Rattle.elab_members.proofs.defaults.kept_name.Goals as goal

pub returns-clause-are : goal.returns-clause-are
returns-clause-are c = kept_numbered c.args.prefix.now c.make_room.new.names.items c.args.k c.in_ok-share.field-0 c.in_ok-make_room.ensures.are (c.in_ok-share.ensures ∙ c.in_ok-name.ensures)
