use Rattle.std.proofs.Common.{ℕ, ◌+◌, ◌≤◌, List, length, get_or, ap, ◌∙◌, arith}
use Rattle.upload_stage.proofs.Places.{written, length-over, over_before, over_inside, over_after}
use Rattle.upload_stage.proofs.held.write.Goals as goal

pub returns : goal.returns
returns c =
    let was = c.as_mut_slice.result.now in
    let now = c.overwrite.new.held in
    let xs = c.args.bytes.now in
    let value = c.as_mut_slice.ensures.value in
    let long : c.args.offset + length xs ≤ length was = omega (arith, ap length value, c.grow.ensures.len) in
    let e = written c.grow.new.held.len now c.grow.new.held.items (omega (arith, c.overwrite.auto.held, c.as_mut_slice.ensures.len)) in
    record {
      len = ap length e ∙ (length-over was now xs c.args.offset long c.overwrite.ensures ∙ (ap length value ∙ c.grow.ensures.len));
      before = λ k lt inside. ap (λ (l : List ℕ). get_or l k 0) e ∙ (over_before was now xs c.args.offset long c.overwrite.ensures k lt ∙ (ap (λ (l : List ℕ). get_or l k 0) value ∙ c.grow.ensures.same k inside));
      inside = λ k le lt. ap (λ (l : List ℕ). get_or l k 0) e ∙ over_inside was now xs c.args.offset long c.overwrite.ensures k le lt;
      after = λ k le inside. ap (λ (l : List ℕ). get_or l k 0) e ∙ (over_after was now xs c.args.offset long c.overwrite.ensures k le ∙ (ap (λ (l : List ℕ). get_or l k 0) value ∙ c.grow.ensures.same k inside));
      room = c.grow.ensures.room;
    }
