use Rattle.std.proofs.Common.{◌<◌, ◌*◌, ◌^◌, ℕ, List, length, ◌∙◌, subst}
use Rattle.std.specs.Prelude.{slice_index}
use Rattle.value_index.specs.Segments.{IsSegment}
use Rattle.value_index.specs.Built.{Holds}
use Rattle.value_index.proofs.Same.{same_places}
use Rattle.value_index.proofs.Counted.{all_have_ends}
use Rattle.value_index.proofs.index.Index.with_cuts.Goals as goal

holds : (c : goal.In_ok-starts) → Holds c.args.cuts.items c.args.sets.now c.in_ok-rows.rows
holds c = subst (λ (cuts : List ℕ). Holds cuts c.args.sets.now c.in_ok-rows.rows) c.as_slice.ensures.value c.in_ok-rows.ensures

direct : (c : goal.In_ok-starts) → (b : ℕ) → b < length c.in_ok-starts.starts.items → IsSegment c.args.cuts.items (b * 2 ^ c.shift_for-shift.result) (slice_index c.in_ok-starts.starts.items b)
direct c b lt = subst (λ (cuts : List ℕ). IsSegment cuts (b * 2 ^ c.shift_for-shift.result) (slice_index c.in_ok-starts.starts.items b)) c.as_slice-2.ensures.value (c.in_ok-starts.ensures b lt)

pub invariant_of-result : goal.invariant_of-result
invariant_of-result c = record {
  ascends = c.requires.ascends.at;
  some = c.requires.some;
  zero = c.requires.zero;
  same = (holds c).same;
  shifts = c.shift_for-shift.ensures;
  inside = λ b lt. (direct c b lt).within;
  below = λ b lt. (direct c b lt).below;
  above = λ b t lt past within. (direct c b lt).above t past within;
}

pub returns : goal.returns
returns c = record { at = λ v s fits at. (subst (λ (cuts : List ℕ). Holds cuts c.args.sets.now c.in_ok-rows.rows) c.as_slice.ensures.value c.in_ok-rows.ensures).at s at.within ∙ same_places c.args.cuts.items v s c.requires.ascends fits at c.args.sets.now (all_have_ends c.args.cuts.items c.args.sets.now c.requires.are) }
