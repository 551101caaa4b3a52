use Rattle.std.proofs.Common.{arith}
use Rattle.cross_holes.specs.Projected.{cross_with, projected_on}
use Rattle.cross_holes.proofs.Joining.{flat_more}
use Rattle.cross_holes.proofs.holes.holes_along.Goals as goal

pub loop-number-preserved : goal.loop-number-preserved
loop-number-preserved c =
    let inv = c.loop-number.invariant in
    let within = inv.within in
    let test = c.loop-number-test.true in
    let cross = cross_with c.args.axes.now c.args.nodes.now c.args.item.now c.args.live.now c.args.holes.now in
    record {
      projected = flat_more (projected_on cross) c.loop-number.number c.loop-number.found.projected c.take_axis.new.found.projected inv.projected c.in_ok-take_axis.ensures.projected;
      alone = c.in_ok-take_axis.ensures.alone;
      within = omega (arith, within, test);
      end = inv.end;
    }
