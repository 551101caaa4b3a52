use Rattle.std.proofs.Common.{arith, inl, inr, ◌≡◌, true, sym, ◌∙◌}
use Rattle.std.proofs.lemmas.Bool.{cases_lt, eqb-true}
use Rattle.upload_stage.specs.Places.{mark_of}
use Rattle.upload_stage.proofs.Bits.{whole_word}
use Rattle.upload_stage.proofs.marks.first_unmarked.Goals as goal

pub loop-at-preserved-then-marks-at : goal.loop-at-preserved-then-marks-at
loop-at-preserved-then-marks-at c = record {
  low = omega arith;
  high = omega arith;
  before = λ place le lt. elim (cases_lt place c.loop-at.at) [
    | inl before ↦ c.loop-at.invariant.before place le before
    | inr after ↦ whole_word c.args.marks.now c.loop-at.at place c.if-at-eq0.true c.if-marks-at.true after lt
  ];
}

pub loop-at-preserved : goal.loop-at-preserved
loop-at-preserved c =
    let here : mark_of c.args.marks.now c.loop-at.at ≡ 1 = eqb-true (mark_of c.args.marks.now c.loop-at.at) 1 (sym c.is_marked.ensures ∙ c.if-is_marked.true) in
    record {
      low = omega arith;
      high = omega arith;
      before = λ place le lt. elim (cases_lt place c.loop-at.at) [
        | inl before ↦ c.loop-at.invariant.before place le before
        | inr after ↦ let same : place ≡ c.loop-at.at = omega arith in rw same here
      ];
    }
