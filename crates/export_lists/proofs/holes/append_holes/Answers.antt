use Rattle.merge_store.specs.Now.{nodes_now, count_now}
use Rattle.export_lists.specs.Holes.{line_of_hole}
use Rattle.export_lists.proofs.Growing.{grown_by}
use Rattle.export_lists.proofs.holes.append_holes.Goals as goal

pub loop-hole-preserved : goal.loop-hole-preserved
loop-hole-preserved c =
    grown_by (line_of_hole (nodes_now c.args.store.now) (count_now c.args.store.now)) c.args.holes.now c.loop-hole.hole-index _ c.args.text.now.items c.loop-hole.text.items c.append_hole.new.text.items c.loop-hole-test.true c.loop-hole.invariant c.in_ok-append_hole.ensures
