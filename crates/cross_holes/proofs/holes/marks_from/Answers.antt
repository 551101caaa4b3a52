use Rattle.std.proofs.Common.{arith}
use Rattle.std.specs.Prelude.{slice_index}
use Rattle.cross_holes.specs.Projected.{is_bare}
use Rattle.cross_holes.proofs.Joining.{map_more}
use Rattle.cross_holes.proofs.holes.marks_from.Goals as goal

pub loop-member-preserved : goal.loop-member-preserved
loop-member-preserved c =
    let inv = c.loop-member.invariant in
    (map_more (λ member. is_bare (slice_index c.args.holes.now member) (slice_index c.args.live.now member)) c.loop-member.member c.loop-member.marks.items c.push.new.self.items c.is_bare_at.result inv.0 c.is_bare_at.ensures c.in_ok-push.ensures.items, omega (arith, inv.1, inv.2, c.loop-member-test.true), inv.2)
