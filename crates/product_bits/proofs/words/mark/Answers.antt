use Rattle.std.proofs.Common.{◌≡◌, ◌+◌, ◌-◌, ◌*◌, ◌/◌, ◌<◌, ◌≤◌, ◌&&◌, ◌||◌, leb, ltb, length, ◌∙◌, arith}
use Rattle.product_bits.specs.Marks.{is_marked}
use Rattle.product_bits.proofs.WordLemmas.{mark_word, mark_more, no_stretch}
use Rattle.product_bits.proofs.words.mark.Goals as goal

pub loop-at-init : goal.loop-at-init
loop-at-init c = record {
  low = omega arith;
  high = omega arith;
  marks = λ n. no_stretch (is_marked c.args.words.now n) c.args.from c.args.from n (omega arith);
}

pub loop-at-preserved : goal.loop-at-preserved
loop-at-preserved c =
    let words = c.loop-at.words in
    let at = c.loop-at.at in
    let end = at + c.min.result in
    let inside : at / 64 < length words = omega (arith, c.requires.wide, c.loop-at.auto.words, c.loop-at-test.true) in
    let order : at < end = omega (arith, c.min.ensures, c.loop-at-test.true) in
    let near : end ≤ (at / 64 + 1) * 64 = omega (arith, c.min.ensures) in
    record {
      low = omega (arith, c.loop-at.invariant.low);
      high = omega (arith, c.min.ensures);
      marks = λ n. mark_more (is_marked words n) _ (is_marked c.args.words.now n) c.args.from at end n c.loop-at.invariant.low order (c.loop-at.invariant.marks n) (mark_word words at end c.bits_between.result inside order near c.bits_between.ensures n);
    }

pub loop-at-preserved-then-to-at-ge-BITS : goal.loop-at-preserved-then-to-at-ge-BITS
loop-at-preserved-then-to-at-ge-BITS c =
    let words = c.loop-at.words in
    let at = c.loop-at.at in
    let last = c.args.to / 64 in
    let order : at < last * 64 = omega (arith, c.if-at-eq0.true, c.if-to-at-ge-BITS.true, c.loop-at-test.true) in
    let low : 64 * (at / 64) ≡ at = omega (arith, c.if-at-eq0.true) in
    let high : 64 * last ≡ last * 64 = omega arith in
    record {
      low = omega (arith, c.loop-at.invariant.low, order);
      high = omega arith;
      marks = λ n. mark_more (is_marked words n) _ (is_marked c.args.words.now n) c.args.from at (last * 64) n c.loop-at.invariant.low order (c.loop-at.invariant.marks n)
          (c.mark_words.ensures n ∙ (λ i. is_marked words n || (leb (low i) n && ltb n (high i))));
    }
