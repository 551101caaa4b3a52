use Rattle.elab_crosses.proofs.Lists.{own_more, own_done}
use Rattle.elab_crosses.proofs.axes.own_names.Goals as goal

pub loop-member-preserved : goal.loop-member-preserved
loop-member-preserved c = own_more c.loop-member.names c.add_own.new.names c.args.members.now c.loop-member.member-index c.member-item.result _ c.loop-member-test.true c.member-item.is c.in_ok-add_own.ensures c.loop-member.invariant

pub returns : goal.returns
returns c = own_done c.loop-member.names c.args.members.now c.loop-member.member-index _ c.loop-member-test.false c.loop-member.invariant
