use Rattle.std.proofs.Common.{arith}
use Rattle.cross_holes.specs.Projected.{member_on}
use Rattle.cross_holes.proofs.Counting.{counts_more}
use Rattle.cross_holes.proofs.members.member_counts.Goals as goal

pub loop-place-preserved : goal.loop-place-preserved
loop-place-preserved c =
    let inv = c.loop-place.invariant in
    let within = inv.within in
    let end = inv.end in
    let test = c.loop-place-test.true in
    record {
      counts = counts_more (member_on c.args.nodes.now c.args.item.now c.args.axis) c.args.members c.args.bins.now c.loop-place.place c.loop-place.counts.items c.count_member.new.counts.items c.member_at-member.result (omega (arith, end, test)) c.member_at-member.ensures inv.counts c.count_member.ensures;
      within = omega (arith, within, test);
      end = end;
    }
