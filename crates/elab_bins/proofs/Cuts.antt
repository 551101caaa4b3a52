-- Automatic bins are the numbers of their type, one part after the other.
use Rattle.std.proofs.Common.{◌≡◌, ◌∙◌, refl, ap, sym, ◌≤ℤ◌, ℕ, zero, suc, ◌+◌, ◌-◌, ◌*◌, ◌/◌, ◌^◌, ◌<◌, ◌≤◌, ℤ, pos, ◌+ℤ◌, ◌-ℤ◌, List, [], ◌∷◌, ◌++◌, map, arith, min, Bool}
use Rattle.std.specs.List.{flat_map}
use Rattle.std.proofs.lemmas.Int.{ints}
use Rattle.std.proofs.lemmas.Nat.{pow_pos}
use Rattle.std.proofs.Math.Nat.{le-div_iff_mul-le}
use Rattle.cov_base.specs.Sets.{count_from, span, written}
use Rattle.bin_spec.specs.Parts.{part, places}
use Rattle.bin_spec.specs.Types.{lowest, domain}
use Rattle.bin_spec.proofs.Spreads.{parts_together}
use Rattle.auto_bins.specs.Automatic.{automatic_parts, AllInOrder}
use Rattle.auto_bins.proofs.Counting.{share_bound, spread_step, spread_end, automatic_is, in_order_next, ranges_are}
use Rattle.elab_bins.specs.Laws.{AutomaticCuts}

part_range : ℤ → ℕ → ℕ → ℤ × ℤ
part_range low per k = (low +ℤ pos (k * per), (low +ℤ pos (k * per + per)) -ℤ pos 1)

-- the ranges of the parts before the k-th
front : ℤ → ℕ → ℕ → List (ℤ × ℤ)
front low per zero = []
front low per (suc k) = front low per k ++ part_range low per k ∷ []

front_is : (low : ℤ) (count bins per k : ℕ) → 1 ≤ bins → bins ≤ count → per ≡ count / bins → k + 1 ≤ bins → map span (front low per k) ≡ map (part (count_from low count) bins) (places k)
unfolding front part_range
front_is low count bins per zero some most is le = refl
front_is low count bins per (suc k) some most is le =
    let before = front_is low count bins per k some most is (omega (arith, le)) in
    spread_step low count bins per k (front low per k) (front low per (suc k)) (part_range low per k) some most is (omega (arith, le)) refl refl refl before
    ∙ ap (λ (n : ℕ). map (part (count_from low count) bins) (places n)) next
  where
    next : k + 1 ≡ suc k
    next = omega arith

front_order : (low : ℤ) (per k : ℕ) → 1 ≤ per → AllInOrder (front low per k)
unfolding front part_range
front_order low per zero some = tt
front_order low per (suc k) some = in_order_next (front low per k) (front low per (suc k)) (part_range low per k) refl (front_order low per k some) (rises (k * per))
  where
    rises : (n : ℕ) → (low +ℤ pos n) ≤ℤ ((low +ℤ pos (n + per)) -ℤ pos 1)
    rises n = omega (arith, ints, some)

flat_spans : (rs : List (ℤ × ℤ)) → written rs ≡ flat_map (λ xs. xs) (map span rs)
unfolding written
flat_spans [] = refl
flat_spans (r ∷ rs) = ap (λ (xs : List ℤ). span r ++ xs) (flat_spans rs)

-- all ranges, the last of which has all that is left
record AreRanges (width : ℕ) (signed : Bool) (most : ℕ) : Type 0 where
  pub ranges : List (ℤ × ℤ)
  pub order : AllInOrder ranges
  pub parts : map span ranges ≡ automatic_parts width signed most

all_ranges : (width : ℕ) (signed : Bool) (most bins : ℕ) → 1 ≤ width → bins ≡ min (2 ^ width) most → 1 ≤ bins → bins ≤ 2 ^ width → AreRanges width signed most
all_ranges width signed most bins wide is some few =
    let low = lowest width signed in
    let count = 2 ^ width in
    let per = count / bins in
    let k = bins - 1 in
    let last : ℤ × ℤ = (low +ℤ pos (k * per), (low +ℤ pos (k * per + (count - k * per))) -ℤ pos 1) in
    let positive : 1 ≤ per = (le-div_iff_mul-le {k = bins} {x = 1} {y = count} some).1 (omega (arith, few)) in
    let within : k * per + per ≤ count = share_bound count bins per k refl (omega (arith, some)) in
    let end : k + 1 ≡ bins = omega (arith, some) in
    let before = front_is low count bins per k some few refl (omega (arith, end)) in
    let whole = spread_end low count bins per k (front low per k) (front low per k ++ last ∷ []) last some few refl end refl refl refl before in
    record {
      ranges = front low per k ++ last ∷ [];
      order = in_order_next (front low per k) (front low per k ++ last ∷ []) last refl (front_order low per k positive) (rises low (k * per) count (omega (arith, within, positive)));
      parts = automatic_is width signed most bins count low (front low per k ++ last ∷ []) wide refl refl is whole;
    }
  where
    rises : (low : ℤ) (n count : ℕ) → n < count → (low +ℤ pos n) ≤ℤ ((low +ℤ pos (n + (count - n))) -ℤ pos 1)
    rises low n count lt = omega (arith, ints, lt)

pub automatic_cut : AutomaticCuts
automatic_cut width signed most wide some =
    let full = pow_pos width in
    let bins = min (2 ^ width) most in
    let all = all_ranges width signed most bins wide refl (omega (arith, some, full)) (omega arith) in
    ap written (sym (ranges_are width most signed all.ranges all.order all.parts))
    ∙ (flat_spans all.ranges ∙ (ap (flat_map (λ xs. xs)) all.parts ∙ parts_together (span (domain width signed)) bins (omega (arith, some, full))))
