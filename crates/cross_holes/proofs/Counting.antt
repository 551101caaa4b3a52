-- How many bins have each member, a bin at a time.
use Rattle.std.proofs.Common.{◌≡◌, ◌≢◌, ◌⊎◌, inl, inr, ℕ, zero, suc, ◌+◌, ◌<◌, ◌≤◌, ◌^◌, List, [], ◌∷◌, ◌++◌, length, take, get_or, replicate, set, Bool, true, false, cond, ◌==◌, refl, sym, ap, ◌∙◌, arith, Option, Some, None, length-set}
use Rattle.std.specs.Prelude.{count_by, nat_lt, slice_index, slice_set, if◌then◌else◌}
use Rattle.std.specs.Option.{option_map_or}
use Rattle.std.proofs.lemmas.List.{take_more, take_all, length-replicate, get_or-replicate, get_or-set_other}
use Rattle.std.proofs.lemmas.List.Sums.{sum_by_push, count_by-le-length}
use Rattle.std.proofs.lemmas.Grind.{get_or-set_at}
use Rattle.std.proofs.lemmas.Bool.{ltb-true, ltb-false}
use Rattle.std.proofs.lemmas.Bool.Decides.{eqb_tells}
use Rattle.cross_holes.specs.Projected.{with_member}
use Rattle.cross_holes.specs.Counts.{counted, AreCounts}
use Rattle.cross_holes.proofs.Joining.{by_bool}

-- whether it is this member
abbrev is_it : Option ℕ → ℕ → Bool
is_it own member = option_map_or (λ o. o == member) own false

-- one bin more
counted_at : (own : Option ℕ) (counts : List ℕ) (member : ℕ) → member < length counts → slice_index (counted own counts) member ≡ slice_index counts member + cond (is_it own member) 1 0
counted_at None counts member lt = omega arith
counted_at (Some o) counts member lt =
    by_bool (nat_lt o (length counts))
    (λ k. rw k (elim (eqb_tells o member) [
      | inl e ↦ let n : slice_index counts o ≡ slice_index counts member = ap (λ (j : ℕ). slice_index counts j) e.1 in
          rw e.0 (get_or-set_at counts o member (slice_index counts o + 1) 0 (sym e.1) (ltb-true o (length counts) k) ∙ ap (λ (j : ℕ). j + 1) n)
      | inr e ↦ let z : slice_index counts member ≡ slice_index counts member + 0 = omega arith in rw e.0 (get_or-set_other counts o member (slice_index counts o + 1) 0 (λ same. e.1 (sym same)) ∙ z)
    ]))
    (λ k. let ge = ltb-false o (length counts) k in rw k (elim (eqb_tells o member) [
      | inl e ↦ let same = e.1 in absurd (omega (arith, ge, lt, same))
      | inr e ↦ let z : slice_index counts member ≡ slice_index counts member + 0 = omega arith in rw e.0 z
    ]))

counted_long : (own : Option ℕ) (counts : List ℕ) → length (counted own counts) ≡ length counts
counted_long None counts = refl
counted_long (Some o) counts = by_bool (nat_lt o (length counts)) (λ k. rw k (length-set counts o (slice_index counts o + 1))) (λ k. rw k refl)

module _ (member_of : ℕ → Option ℕ) (members : ℕ) where
  pub counts_none : (counts bins : List ℕ) → counts ≡ replicate members 0 → AreCounts member_of members (take 0 bins) counts
  counts_none counts bins e = record {
    long = ap (λ (xs : List ℕ). length xs) e ∙ length-replicate members 0;
    each = λ member lt. ap (λ (xs : List ℕ). get_or xs member 0) e ∙ get_or-replicate members member 0 0 lt;
  }

  pub counts_more : (bins : List ℕ) (i : ℕ) (old new : List ℕ) (own : Option ℕ) → i < length bins → own ≡ member_of (slice_index bins i) → AreCounts member_of members (take i bins) old → new ≡ counted own old → AreCounts member_of members (take (i + 1) bins) new
  counts_more bins i old new own lt at was e = record {
    long = ap (λ (xs : List ℕ). length xs) e ∙ counted_long own old ∙ was.long;
    each = λ member few.
        let n = slice_index bins i in
        let p : ℕ → Bool = λ m. is_it (member_of m) member in
        let s = sum_by_push (λ m. cond (p m) 1 0) (take i bins) n in
        let t = ap (count_by p) (take_more bins i 0 lt) in
        let here = few_in member few in
        let c = counted_at own old member here in
        let m : ◌≡◌ {A = ℕ} (cond (is_it own member) 1 0) (cond (p n) 1 0) = ap (λ (o : Option ℕ). cond (is_it o member) 1 0) at in
        let w = was.each member few in
        let r = ap (λ (xs : List ℕ). get_or xs member 0) e in
        omega (arith, s, t, c, m, w, r);
  }
    where
      few_in : (member : ℕ) → member < members → member < length old
      few_in member few = let l = was.long in omega (arith, few, l)

  pub counts_done : (bins : List ℕ) (i : ℕ) (counts : List ℕ) → length bins ≤ i → AreCounts member_of members (take i bins) counts → AreCounts member_of members bins counts
  counts_done bins i counts le was = record { long = was.long; each = λ member lt. was.each member lt ∙ ap (with_member member_of member) (take_all i bins le) }

  -- no count is more than the bins so far
  pub counts_small : (bins : List ℕ) (i : ℕ) (counts : List ℕ) → i ≤ length bins → AreCounts member_of members (take i bins) counts → (member : ℕ) → member < length counts → slice_index counts member ≤ i
  counts_small bins i counts le was member lt =
      let l = was.long in
      let w = was.each member (omega (arith, lt, l)) in
      let c = count_by-le-length (λ n. is_it (member_of n) member) (take i bins) in
      let t = length_take i bins in
      omega (arith, w, c, t)
    where
      length_take : (k : ℕ) (xs : List ℕ) → length (take k xs) ≤ k
      length_take zero [] = omega arith
      length_take (suc k) [] = omega arith
      length_take zero (x ∷ xs) = omega arith
      length_take (suc k) (x ∷ xs) = let rest = length_take k xs in omega (arith, rest)
