use Rattle.elab_members.specs.CrossNames.{around_cross}
use Rattle.elab_members.proofs.Implied.{implied_more, implied_done}
use Rattle.elab_members.proofs.cross_names.implicit_names.Goals as goal

pub loop-name-preserved : goal.loop-name-preserved
loop-name-preserved c =
    implied_more (around_cross c.args.outside.now c.args.inside.now c.args.items.now) c.loop-name.made c.add_implicit_name.new.made c.args.names.now c.loop-name.name-index c.name-item.result _
    c.loop-name-test.true c.name-item.is c.in_ok-add_implicit_name.ensures c.loop-name.invariant

pub returns : goal.returns
returns c = implied_done (around_cross c.args.outside.now c.args.inside.now c.args.items.now) c.loop-name.made c.args.names.now c.loop-name.name-index _ c.loop-name-test.false c.loop-name.invariant
