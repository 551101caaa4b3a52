use Rattle.std.proofs.Common.{ℕ, List, [], ◌∷◌, ◌++◌, Bool, ap, ◌∙◌, arith, if◌then◌else◌}
use Rattle.cross_holes.specs.declared.holes.ProjectedHole.{ProjectedHole}
use Rattle.cross_holes.specs.Projected.{named}
use Rattle.cross_holes.specs.Marks.{is_new}
use Rattle.cross_holes.proofs.Joining.{flat_grown}
use Rattle.cross_holes.proofs.holes.add_marked.Goals as goal

pub loop-member-preserved : goal.loop-member-preserved
loop-member-preserved c =
    let inv = c.loop-member.invariant in
    let test = c.loop-member-test.true in
    let f : ℕ → List ProjectedHole = λ member. if is_new c.args.marks.now c.args.counts.now member then named c.args.axis.now member ∷ [] else [] in
    let e = c.in_ok-add_projected.ensures ∙ ap (λ (b : Bool). c.loop-member.found ++ (if b then named c.args.axis.now c.loop-member.member ∷ [] else [])) c.is_new.ensures in
    (flat_grown f c.loop-member.member c.args.found.now c.loop-member.found c.add_projected.new.found inv.0 e, omega (arith, inv.1, inv.2, test), inv.2)
