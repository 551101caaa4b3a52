-- What a set keeps, in the words of its contracts.
use Rattle.std.proofs.Common.{◌≡◌, ◌∙◌, ℕ, ◌*◌, ◌^◌, ◌≤◌, ℤ, [], ◌∷◌, length, zero-add, arith, refl, Option, None, Some}
use Rattle.std.specs.declared.sync.Arc.{Arc}
use Rattle.std.specs.Arc.{arc_value}
use Rattle.cov_base.specs.declared.sets.kept.Kept.{Kept}
use Rattle.cov_base.specs.declared.sets.kept.Kept.TheVariants.{One, Many}
use Rattle.cov_base.specs.Sets.{written, size, IsNormalForm}
use Rattle.cov_base.specs.Intervals.{total}
use Rattle.cov_base.specs.Stored.{IsStored}
use Rattle.cov_base.specs.Kept.{ranges_of, ranges_in, IsKept, IsKeptIn}
use Rattle.cov_base.proofs.Counts.{total-written}
use Rattle.cov_base.proofs.Laws.{count_bound}

none_normal : IsNormalForm []
none_normal = record { normal = tt; ends = tt }

normal_of : (kept : Kept) → IsKept kept → IsNormalForm (ranges_of kept)
normal_of (One range) k = k
normal_of (Many intervals counts) k = k.normal

pub normal_in : {Z : Type 0} (kept : Option (Arc Kept Z)) → IsKeptIn kept → IsNormalForm (ranges_in kept)
normal_in None k = none_normal
normal_in (Some kept) k = normal_of (arc_value kept) k

-- one interval is counted by itself
pub one_stored : (range : ℤ × ℤ) (count : ℕ) → count ≡ size range → IsNormalForm (range ∷ []) → IsStored (range ∷ []) (0 ∷ []) count
one_stored range count same normal = record {
  normal = normal;
  before_is = refl;
  count_is = omega (arith, same);
}

pub count_is : {Z : Type 0} (kept : Option (Arc Kept Z)) → total 0 (ranges_in kept) ≡ length (written (ranges_in kept))
count_is kept = total-written 0 (ranges_in kept) ∙ zero-add _

pub count_few : {Z : Type 0} (kept : Option (Arc Kept Z)) → IsKeptIn kept → total 0 (ranges_in kept) ≤ 3 * 2 ^ 63
count_few kept k = count_bound (ranges_in kept) (normal_in kept k)
