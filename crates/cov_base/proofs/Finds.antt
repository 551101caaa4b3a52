-- Where a number stands among intervals in normal form, and what `InRanges` says of it.
use Rattle.std.proofs.Common.{◌≡◌, ◌∙◌, ap, refl, sym, ℕ, zero, suc, ◌<◌, ℤ, pos, ◌+ℤ◌, ◌≤ℤ◌, ◌<ℤ◌, List, [], ◌∷◌, length, get_or, arith, Bool, true, false, int_le, IsTrue, ◌↔◌}
use Rattle.std.specs.Prelude.{◌&&◌, ◌||◌}
use Rattle.std.proofs.lemmas.Grind.{common_steps}
use Rattle.std.proofs.lemmas.Int.{ints}
use Rattle.std.proofs.lemmas.List.{get_or_default}
use Rattle.cov_spec.specs.Ranges.{InRanges}
use Rattle.cov_base.specs.Sets.{is_within, covers, is_in, written, IsNormalFrom, IsNormalForm, least}
use Rattle.cov_base.specs.Intervals.{low_at, Ascends}
use Rattle.cov_base.proofs.Normal.{covers-below}
use Rattle.cov_base.proofs.Members.{is_in-written}

pub low_least : (low : ℤ) (rs : List (ℤ × ℤ)) (i : ℕ) → IsNormalFrom low rs → i < length rs → low ≤ℤ low_at rs i
low_least low [] i n h = absurd (omega arith)
low_least low (r ∷ rs) zero n h = n.0
low_least low (r ∷ rs) (suc i) n h = omega (arith, ints, n.0, n.1, low_least (r.1 +ℤ pos 2) rs i n.2 (omega arith))

pub lows_ascend : (low : ℤ) (rs : List (ℤ × ℤ)) → IsNormalFrom low rs → Ascends rs
lows_ascend low [] n i j le h = absurd (omega arith)
lows_ascend low (r ∷ rs) n zero zero le h = omega (arith, ints)
lows_ascend low (r ∷ rs) n zero (suc j) le h = omega (arith, ints, n.1, low_least (r.1 +ℤ pos 2) rs j n.2 (omega arith))
lows_ascend low (r ∷ rs) n (suc i) zero le h = absurd (omega arith)
lows_ascend low (r ∷ rs) n (suc i) (suc j) le h = lows_ascend (r.1 +ℤ pos 2) rs n.2 i j (omega arith) (omega arith)

-- a number is covered where the last interval that begins at it or before it has it
pub found : (low : ℤ) (rs : List (ℤ × ℤ)) (v : ℤ) (p : ℕ) → IsNormalFrom low rs → p < length rs → ((t : ℕ) → p < t → t < length rs → v <ℤ low_at rs t) → (0 < p → low_at rs p ≤ℤ v)
    → covers rs v ≡ is_within v (get_or rs p (pos 0, pos 0))
found low [] v p n h above below = absurd (omega arith)
found low (r ∷ []) v zero n h above below = only (is_within v r)
  where
    only : (t : Bool) → (t || false) ≡ t
    only t = grind (arith, common_steps)
found low (r ∷ s ∷ rs) v zero n h above below = only (is_within v r) (covers (s ∷ rs) v) (covers-below s.0 (s ∷ rs) v (omega (arith, ints), n.2.1, n.2.2) (above 1 (omega arith) (omega arith)))
  where
    only : (t u : Bool) → u ≡ false → (t || u) ≡ t
    only t u e = grind (arith, common_steps, e)
found low (r ∷ rs) v (suc p) n h above below =
    let at : low_at rs p ≤ℤ v = below (omega arith) in
    let from = low_least (r.1 +ℤ pos 2) rs p n.2 (omega arith) in
    let rest = found (r.1 +ℤ pos 2) rs v p n.2 (omega arith) (λ t lt le. above (suc t) (omega arith) (omega arith)) (λ _. at) in
    behind r.0 r.1 (covers rs v) (is_within v (get_or rs p (pos 0, pos 0))) (omega (arith, ints, at, from)) rest
  where
    behind : (a b : ℤ) (t u : Bool) → b <ℤ v → t ≡ u → (is_within v (a, b) || t) ≡ u
    behind a b t u lt e = grind (arith, common_steps, ints, e)

pub in_ranges_if_covered : (rs : List (ℤ × ℤ)) (v : ℤ) → covers rs v ≡ true → InRanges v rs
in_ranges_if_covered [] v e = absurd cc
in_ranges_if_covered (r ∷ rs) v e = first (λ h. in_ranges_if_covered rs v h) (is_within v r) refl e
  where
    both : (a b : ℤ) → is_within v (a, b) ≡ true → (a ≤ℤ v) × (v ≤ℤ b)
    both a b e = grind (arith, common_steps, ints)

    later : InRanges v rs → InRanges v (r ∷ rs)
    later any = (suc any.0, any.1, omega (arith, any.2), any.3, any.4)

    first : (covers rs v ≡ true → InRanges v rs) → (t : Bool) → is_within v r ≡ t → (t || covers rs v) ≡ true → InRanges v (r ∷ rs)
    first rest true e h = (0, r, omega arith, refl, both r.0 r.1 e)
    first rest false e h = later (rest h)

covered_at : (rs : List (ℤ × ℤ)) (v : ℤ) (k : ℕ) (x : ℤ × ℤ) → k < length rs → get_or rs k x ≡ x → x.0 ≤ℤ v → v ≤ℤ x.1 → covers rs v ≡ true
covered_at [] v k x h e low high = absurd (omega arith)
covered_at (r ∷ rs) v zero x h e low high = here x.0 x.1 (is_within v r) (covers rs v) (ap (is_within v) e) low high
  where
    here : (a b : ℤ) (t u : Bool) → t ≡ is_within v (a, b) → a ≤ℤ v → v ≤ℤ b → (t || u) ≡ true
    here a b t u e low high = grind (arith, common_steps, ints, e)
covered_at (r ∷ rs) v (suc k) x h e low high = there (is_within v r) (covers rs v) (covered_at rs v k x (omega arith) e low high)
  where
    there : (t u : Bool) → u ≡ true → (t || u) ≡ true
    there t u e = grind (arith, common_steps, e)

-- the test of membership in what is written out is the fact `InRanges`
pub is_in_ranges : (rs : List (ℤ × ℤ)) (v : ℤ) → IsTrue (is_in (written rs) v) ↔ InRanges v rs
is_in_ranges rs v = (
  λ h. in_ranges_if_covered rs v (sym (is_in-written rs v) ∙ true_from h),
  λ any. from_true (is_in-written rs v ∙ covered_at rs v any.0 any.1 any.2 any.3 any.4.0 any.4.1),
)
  where
    true_from : {b : Bool} → IsTrue b → b ≡ true
    true_from h = h

    from_true : {b : Bool} → b ≡ true → IsTrue b
    from_true h = h

pub found_at : (rs : List (ℤ × ℤ)) (v : ℤ) (p : ℕ) (x : ℤ × ℤ) (a b : Bool) → IsNormalForm rs → p < length rs → ((t : ℕ) → p < t → t < length rs → v <ℤ low_at rs t) → (0 < p → low_at rs p ≤ℤ v)
    → x ≡ get_or rs p x → a ≡ int_le x.0 v → b ≡ int_le v x.1 → (a && b) ≡ is_in (written rs) v
found_at rs v p x a b s h above below is e f =
    both e f ∙ (ap (is_within v) (is ∙ get_or_default rs p x (pos 0, pos 0) h) ∙ (sym (found least rs v p s.normal h above below) ∙ sym (is_in-written rs v)))
  where
    both : {a b c d : Bool} → a ≡ c → b ≡ d → (a && b) ≡ (c && d)
    both e f = λ i. e i && f i

pub none_found : (rs : List (ℤ × ℤ)) (v : ℤ) → length rs ≡ 0 → false ≡ is_in (written rs) v
none_found [] v e = sym (is_in-written [] v)
none_found (r ∷ rs) v e = absurd (omega arith)
