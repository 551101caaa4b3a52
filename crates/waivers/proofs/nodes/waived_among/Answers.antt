use Rattle.std.proofs.Common.{◌≡◌, ◌∙◌, sym, arith}
use Rattle.waivers.specs.Patterns.{is_match}
use Rattle.waivers.proofs.Places.{passes, fails, all_found}
use Rattle.waivers.proofs.nodes.waived_among.Goals.{then-branch+in_ok-push, else-branch}
use Rattle.waivers.proofs.nodes.waived_among.Goals as goal

pub loop-place-preserved : goal.loop-place-preserved
loop-place-preserved c =
    let path = c.index-paths-place.result in
    let so : c.in_ok-matches.field-0 ≡ is_match c.args.pattern.now path = rw (c.in_ok-made.ensures, c.as_slice.ensures) at c.in_ok-matches.ensures.tested in
    elim c.if-branch.branch [
      | then-branch+in_ok-push w ↦ rw (w.places-is, w.in_ok-push.ensures.items) (passes (is_match c.args.pattern.now) c.args.paths.now c.loop-place.place c.loop-place.places.items path c.loop-place.invariant (omega (arith, c.loop-place-test.true)) c.index-paths-place.is (sym so ∙ w.if-branch.true))
      | else-branch w ↦ rw w.places-is (fails (is_match c.args.pattern.now) c.args.paths.now c.loop-place.place c.loop-place.places.items path c.loop-place.invariant (omega (arith, c.loop-place-test.true)) c.index-paths-place.is (sym so ∙ w.if-branch.false))
    ]

pub returns : goal.returns
returns c = all_found (is_match c.args.pattern.now) c.args.paths.now c.loop-place.place c.loop-place.places.items (omega (arith, c.loop-place-test.false)) c.loop-place.invariant
