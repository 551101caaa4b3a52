use Rattle.std.proofs.Common.{◌∙◌}
use Rattle.cross_holes.specs.Projected.{cross_with}
use Rattle.cross_holes.specs.Marks.{marks_of}
use Rattle.cross_holes.proofs.Taking.{marks_are}
use Rattle.cross_holes.proofs.holes.projected_marks.Goals as goal

pub returns : goal.returns
returns c axes =
    c.in_ok-marks.ensures ∙ (λ i. marks_of (c.as_slice.ensures.value i) (c.as_slice-2.ensures.value i))
    ∙ marks_are (cross_with axes c.args.nodes.now c.args.item.now c.args.live.now c.args.holes.now) c.args.axis c.args.members c.in_ok-with_live.with_live.items c.in_ok-with_holes.with_holes.items c.in_ok-with_live.ensures c.in_ok-with_holes.ensures
