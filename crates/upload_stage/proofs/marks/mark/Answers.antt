use Rattle.std.proofs.Common.{ℕ, List, length, ap, ◌∙◌, arith}
use Rattle.upload_stage.specs.Places.{mark_of}
use Rattle.upload_stage.proofs.Places.{written}
use Rattle.upload_stage.proofs.marks.mark.Goals as goal

pub returns : goal.returns
returns c =
    let e = written c.args.marks.now.len c.mark_words.new.marks c.args.marks.now.items (omega (arith, c.mark_words.auto.marks, c.as_mut_slice.ensures.len)) in
    let value = c.as_mut_slice.ensures.value in
    record {
      len = ap length e ∙ (c.mark_words.auto.marks ∙ ap length value);
      below = λ place lt. ap (λ (l : List ℕ). mark_of l place) e ∙ (c.mark_words.ensures.below place lt ∙ ap (λ (l : List ℕ). mark_of l place) value);
      inside = λ place le lt. ap (λ (l : List ℕ). mark_of l place) e ∙ c.mark_words.ensures.inside place le lt;
      above = λ place le. ap (λ (l : List ℕ). mark_of l place) e ∙ (c.mark_words.ensures.above place le ∙ ap (λ (l : List ℕ). mark_of l place) value);
    }
