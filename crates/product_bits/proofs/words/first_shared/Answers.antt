use Rattle.std.proofs.Common.{◌&&◌, arith, inl, inr, ◌≡◌, false, sym, ◌∙◌}
use Rattle.std.proofs.lemmas.Bool.{cases_lt}
use Rattle.product_bits.specs.Marks.{is_marked}
use Rattle.product_bits.proofs.WordLemmas.{shared_word}
use Rattle.product_bits.proofs.words.first_shared.Goals as goal

pub loop-at-preserved-then-words-at-eq0 : goal.loop-at-preserved-then-words-at-eq0
loop-at-preserved-then-words-at-eq0 c = record {
  low = omega arith;
  high = omega arith;
  before = λ n le lt. elim (cases_lt n c.loop-at.at) [
    | inl before ↦ c.loop-at.invariant.before n le before
    | inr after ↦ shared_word c.args.words.now c.args.others.now c.loop-at.at n c.if-at-eq0.true c.if-words-at-eq0.true after lt
  ];
}

pub loop-at-preserved : goal.loop-at-preserved
loop-at-preserved c =
    let here : (is_marked c.args.words.now c.loop-at.at && is_marked c.args.others.now c.loop-at.at) ≡ false = sym c.is_shared.ensures ∙ c.if-not-is_shared.true in
    record {
      low = omega arith;
      high = omega arith;
      before = λ n le lt. elim (cases_lt n c.loop-at.at) [
        | inl before ↦ c.loop-at.invariant.before n le before
        | inr after ↦ let same : n ≡ c.loop-at.at = omega arith in rw same here
      ];
    }
