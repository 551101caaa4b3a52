use Rattle.std.proofs.Common.{arith}
use Rattle.ucis_model.proofs.Steps.{more_groups, groups_counted, groups_fit, still_group}
use Rattle.ucis_model.proofs.building.add_groups.Goals as goal

pub loop-place-preserved : goal.loop-place-preserved
loop-place-preserved c =
    let inv = c.loop-place.invariant in (
      more_groups _ _ _ _ _ _ _ _ _ c.loop-place-test.true c.index-groups-place.is c.in_ok-add_group.ensures c.bins_of_group-bins.ensures inv.0,
      groups_counted _ _ _ _ _ _ _ c.loop-place-test.true c.index-groups-place.is c.bins_of_group-bins.ensures inv.1,
      still_group _ _ _ _ _ c.in_ok-add_group.ensures inv.2,
    )

pub bins_of_group-bins-requires : goal.bins_of_group-bins-requires
bins_of_group-bins-requires c =
    let h = groups_fit _ _ _ _ _ _ c.loop-place-test.true c.index-groups-place.is c.loop-place.invariant.1 c.requires.few in omega (arith, h)

pub add_group-requires-clause-few : goal.add_group-requires-clause-few
add_group-requires-clause-few c =
    let h = groups_fit _ _ _ _ _ _ c.loop-place-test.true c.index-groups-place.is c.loop-place.invariant.1 c.requires.few in
    let e = c.bins_of_group-bins.ensures in omega (arith, h, e)

pub overflow_add-next : goal.overflow_add-next
overflow_add-next c =
    let h = groups_fit _ _ _ _ _ _ c.loop-place-test.true c.index-groups-place.is c.loop-place.invariant.1 c.requires.few in
    let e = c.bins_of_group-bins.ensures in omega (arith, h, e)
