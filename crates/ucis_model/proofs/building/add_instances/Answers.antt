use Rattle.std.proofs.Common.{[], ◌∷◌}
use Rattle.ucis_model.specs.Nodes.{own_of}
use Rattle.ucis_model.proofs.Steps.{more_instances, own_counted, own_fits, still_instances}
use Rattle.ucis_model.proofs.building.add_instances.Goals as goal

pub add_own-requires-clause-few : goal.add_own-requires-clause-few
add_own-requires-clause-few c = own_fits _ _ _ _ _ _ c.loop-inst-test.true c.inst-item.is c.loop-inst.invariant.1 c.requires.few

pub loop-inst-preserved : goal.loop-inst-preserved
loop-inst-preserved c =
    let inv = c.loop-inst.invariant in (
      more_instances _ _ _ _ _ _ _ _ _ _ c.loop-inst-test.true c.inst-item.is c.in_ok-add_own.ensures c.own_bins-next.ensures inv.0,
      own_counted _ _ _ _ _ _ _ c.loop-inst-test.true c.inst-item.is c.own_bins-next.ensures inv.1,
      still_instances c.args.parent c.loop-inst.next (own_of (c.inst-item.result ∷ []) c.args.group) _ _ c.in_ok-add_own.ensures inv.2,
    )
