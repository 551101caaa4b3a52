use Rattle.std.proofs.Common.{◌+◌, ◌*◌, ◌/◌, ◌<◌, ◌≤◌, length, ◌∙◌, arith, inl, inr}
use Rattle.std.proofs.lemmas.Bool.{cases_lt}
use Rattle.upload_stage.proofs.Bits.{stays_below, is_inside, stays_above}
use Rattle.upload_stage.proofs.marks.mark_words.Goals as goal

pub loop-at-preserved : goal.loop-at-preserved
loop-at-preserved c =
    let marks = c.loop-at.marks in
    let at = c.loop-at.at in
    let end = at + c.min.result in
    let inside : at / 64 < length marks = omega (arith, c.requires.wide, c.loop-at.auto.marks, c.loop-at-test.true) in
    let order : at < end = omega (arith, c.min.ensures, c.loop-at-test.true) in
    let near : end ≤ (at / 64 + 1) * 64 = omega (arith, c.min.ensures) in
    let bits = c.bits_between.ensures in
    record {
      low = omega (arith, c.loop-at.invariant.low);
      high = omega (arith, c.min.ensures);
      below = λ place lt. stays_below marks at end c.bits_between.result inside order near bits.below bits.inside bits.above place (omega (arith, c.loop-at.invariant.low)) ∙ c.loop-at.invariant.below place lt;
      inside = λ place le lt. elim (cases_lt place at) [
        | inl before ↦ stays_below marks at end c.bits_between.result inside order near bits.below bits.inside bits.above place before ∙ c.loop-at.invariant.inside place le before
        | inr after ↦ is_inside marks at end c.bits_between.result inside order near bits.below bits.inside bits.above place after lt
      ];
      above = λ place le. stays_above marks at end c.bits_between.result inside order near bits.below bits.inside bits.above place le ∙ c.loop-at.invariant.above place (omega arith);
    }
