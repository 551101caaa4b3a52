use Rattle.std.proofs.Common.{take}
use Rattle.store_sums.specs.Groups.{groups_of, name_by}
use Rattle.store_sums.specs.Now.{nodes_now}
use Rattle.store_sums.proofs.Grouping.{place_inside, groups_more}
use Rattle.store_sums.proofs.sums.Sums.grouped.Goals as goal

pub put_by_name-requires : goal.put_by_name-requires
put_by_name-requires c =
    place_inside (groups_of (name_by (nodes_now c.args.self.now) c.args.of_item) (take c.loop-bin.bin-index c.args.bins.now)) c.loop-bin.names c.loop-bin.lists.items c.name_by-name.result.now c.loop-bin.invariant

pub loop-bin-preserved : goal.loop-bin-preserved
loop-bin-preserved c =
    groups_more (name_by (nodes_now c.args.self.now) c.args.of_item) c.args.bins.now c.loop-bin.bin-index _ c.loop-bin.names c.put_by_name.new.names c.loop-bin.lists.items c.put_by_name.new.lists.items c.name_by-name.result.now c.loop-bin-test.true c.name_by-name.ensures c.loop-bin.invariant c.in_ok-put_by_name.ensures.names c.in_ok-put_by_name.ensures.lists
