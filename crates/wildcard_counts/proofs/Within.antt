-- How many numbers of a range agree: those below its end, less those below its beginning.
use Rattle.std.proofs.Common.{◌≡◌, ◌∙◌, refl, ap, sym, subst, ℕ, zero, suc, ◌+◌, ◌-◌, ◌*◌, ◌^◌, ◌<◌, ◌≤◌, min, nat_le, ℤ, pos, negsuc, ◌+ℤ◌, ◌-ℤ◌, ◌≤ℤ◌, List, [], ◌∷◌, ◌++◌, length, filter, take, get_or, append-nil, arith, Bool, true, false, cond, inl, inr, w64, pow-suc}
use Rattle.std.specs.Int.{trailing_ones}
use Rattle.std.proofs.Math.Nat.{pow-le-pow_right}
use Rattle.std.proofs.lemmas.Int.{ints}
use Rattle.std.proofs.lemmas.List.{take_more, take_all, append_assoc}
use Rattle.std.proofs.lemmas.Bool.Decides.{nat_tests}
use Rattle.cov_base.specs.Sets.{count_from, size, span, written, covers}
use Rattle.cov_base.proofs.Members.{size_of_some, size_of_none}
use Rattle.cov_base.proofs.Normal.{cases_of}
use Rattle.cov_base.proofs.Runs.{set_of_covers}
use Rattle.bin_spec.specs.Types.{lowest, highest}
use Rattle.wildcard_bins.specs.declared.pattern.Pattern.{Pattern}
use Rattle.wildcard_bins.specs.Patterns.{agrees, agreeing}
use Rattle.wildcard_bins.specs.Halves.{IsLowestFixed, ranges_above}
use Rattle.wildcard_bins.proofs.Agreement.{lowest_fixed, too_low, too_high}
use Rattle.wildcard_bins.proofs.Levels.{levels, is_past, IsLevel}
use Rattle.wildcard_bins.proofs.Levels.{meets as level_meets}
use Rattle.wildcard_bins.proofs.Whole.{ranges_are, is_in-agreeing}
use Rattle.wildcard_counts.specs.Distances.{many, meets, met_below, cut, distance}
use Rattle.wildcard_counts.proofs.Counted.{many_few}

-- the number so far above the lowest one agrees where it has allowed bits at all places
same_meets : (p : Pattern) (k u : ℕ) → level_meets p k u ≡ meets p k u
unfolding meets level_meets
same_meets p k u = refl

agrees_at : (p : Pattern) (first u : ℕ) → 1 ≤ p.width → IsLowestFixed p first → u < 2 ^ p.width → agrees p (lowest p.width p.signed +ℤ pos u) ≡ meets p p.width u
agrees_at p first u some f lt =
    let low = lowest p.width p.signed in
    let all : first + (p.width - first) ≡ p.width = omega (arith, f.within) in
    let rs = ranges_above p first low (p.width - first) in
    let level = subst (λ (k : ℕ). IsLevel p low k (is_past (p.width - first)) rs) all (levels p first low (p.width - first) f (omega (arith, all))) in
    sym (is_in-agreeing p (low +ℤ pos u)) ∙ (sym (set_of_covers (agreeing p) (low +ℤ pos u)) ∙ (ap (λ (xs : List (ℤ × ℤ)). covers xs (low +ℤ pos u)) (sym (ranges_are p first some f)) ∙ (level.has.allowed u lt ∙ same_meets p p.width u)))

-- some place is the lowest that isn't free
fixed_place : (p : Pattern) → p.width ≤ 64 → p.free < 2 ^ 64 → IsLowestFixed p (min (trailing_ones w64 p.free) p.width)
fixed_place p h f = lowest_fixed p (trailing_ones w64 p.free) (min (trailing_ones w64 p.free) p.width) h f refl refl

half_twice : (w : ℕ) → 1 ≤ w → 2 ^ (w - 1) + 2 ^ (w - 1) ≡ 2 ^ w
half_twice zero h = absurd (omega arith)
half_twice (suc w) h = half (omega arith)
  where
    half : suc w - 1 ≡ w → 2 ^ (suc w - 1) + 2 ^ (suc w - 1) ≡ 2 ^ suc w
    half e = rw e (omega (arith, pow-suc 2 w))

top_is : (w : ℕ) (s : Bool) → 1 ≤ w → highest w s ≡ (lowest w s +ℤ pos (2 ^ w)) -ℤ pos 1
top_is w true some = omega (arith, ints, half_twice w some)
top_is w false some = omega (arith, ints)

far : (low v : ℤ) → low ≤ℤ v → (u : ℕ) × (v ≡ low +ℤ pos u)
far low v le = by (v -ℤ low) refl
  where
    by : (z : ℤ) → v -ℤ low ≡ z → (u : ℕ) × (v ≡ low +ℤ pos u)
    by (pos n) e = (n, omega (arith, ints, e))
    by (negsuc n) e = absurd (omega (arith, ints, e, le))

-- ---- distances

cut_none : (most : ℕ) (z : ℤ) → z ≤ℤ pos 0 → cut most z ≡ 0
cut_none most (pos zero) le = by (nat_le 0 most) refl
  where
    by : (b : Bool) → nat_le 0 most ≡ b → cond b 0 most ≡ 0
    by true e = refl
    by false e = absurd (grind (arith, nat_tests, e))
cut_none most (pos (suc n)) le = absurd (omega (arith, ints, le))
cut_none most (negsuc n) le = refl

cut_some : (most n : ℕ) → n ≤ most → cut most (pos n) ≡ n
cut_some most n le = let e : nat_le n most ≡ true = grind (arith, nat_tests, le) in rw e refl

cut_most : (most n : ℕ) → most ≤ n → cut most (pos n) ≡ most
cut_most most n le = by (nat_le n most) refl
  where
    by : (b : Bool) → nat_le n most ≡ b → cond b n most ≡ most
    by true e = let small : n ≤ most = grind (arith, nat_tests, e) in omega (arith, small, le)
    by false e = refl

distance_at : (p : Pattern) (v : ℤ) (u : ℕ) → v ≡ lowest p.width p.signed +ℤ pos u → u ≤ 2 ^ p.width → distance p v ≡ u
distance_at p v u e le = ap (cut (2 ^ p.width)) (back (lowest p.width p.signed) v u e) ∙ cut_some (2 ^ p.width) u le
  where
    back : (low v : ℤ) (u : ℕ) → v ≡ low +ℤ pos u → v -ℤ low ≡ pos u
    back low v u e = omega (arith, ints, e)

distance_low : (p : Pattern) (v : ℤ) → v ≤ℤ lowest p.width p.signed → distance p v ≡ 0
distance_low p v le = cut_none (2 ^ p.width) (v -ℤ lowest p.width p.signed) (omega (arith, ints, le))

distance_high : (p : Pattern) (v : ℤ) (u : ℕ) → v ≡ lowest p.width p.signed +ℤ pos u → 2 ^ p.width ≤ u → distance p v ≡ 2 ^ p.width
distance_high p v u e le = ap (cut (2 ^ p.width)) (back (lowest p.width p.signed) v u e) ∙ cut_most (2 ^ p.width) u le
  where
    back : (low v : ℤ) (u : ℕ) → v ≡ low +ℤ pos u → v -ℤ low ≡ pos u
    back low v u e = omega (arith, ints, e)

-- ---- one number more, and a range

one_of : Bool → ℕ
one_of b = cond b 1 0

below : Pattern → ℤ → ℕ
below p v = met_below p p.width (distance p v)

one_more : (p : Pattern) (first : ℕ) (v : ℤ) → 1 ≤ p.width → IsLowestFixed p first → below p (v +ℤ pos 1) ≡ below p v + one_of (agrees p v)
unfolding below one_of many
one_more p first v some f =
    let low = lowest p.width p.signed in
    elim (cases_of v low) [
      | inl under ↦
          let was = distance_low p v (omega (arith, ints, under)) in
          let now = distance_low p (v +ℤ pos 1) (omega (arith, ints, under)) in
          rw (was, now, sym (too_low p v under)) refl
      | inr from ↦
          let at = far low v from in
          elim (cases_of (highest p.width p.signed) v) [
            | inl over ↦
                let past : 2 ^ p.width ≤ at.0 = omega (arith, ints, over, at.1, top_is p.width p.signed some) in
                let was = distance_high p v at.0 at.1 past in
                let now = distance_high p (v +ℤ pos 1) (at.0 + 1) (omega (arith, ints, at.1)) (omega (arith, past)) in
                rw (was, now, sym (too_high p v over)) (omega arith)
            | inr to ↦
                let inside : at.0 < 2 ^ p.width = omega (arith, ints, to, at.1, top_is p.width p.signed some) in
                let was = distance_at p v at.0 at.1 (omega (arith, inside)) in
                let now = distance_at p (v +ℤ pos 1) (suc at.0) (omega (arith, ints, at.1)) (omega (arith, inside)) in
                let agree : agrees p v ≡ meets p p.width at.0 = ap (agrees p) at.1 ∙ agrees_at p first at.0 some f inside in
                ap (met_below p p.width) now ∙ ((λ i. met_below p p.width (sym was i) + cond (sym agree i) 1 0))
          ]
    ]

counted_from : (p : Pattern) (first : ℕ) (n : ℕ) (v : ℤ) → 1 ≤ p.width → IsLowestFixed p first → length (filter (agrees p) (count_from v n)) + below p v ≡ below p (v +ℤ pos n)
unfolding one_of
counted_from p first zero v some f = none (below p v) ∙ ap (below p) (same v)
  where
    none : (n : ℕ) → 0 + n ≡ n
    none n = omega arith

    same : (v : ℤ) → v ≡ v +ℤ pos 0
    same v = omega (arith, ints)
counted_from p first (suc n) v some f =
    let rest = counted_from p first n (v +ℤ pos 1) some f in
    let one = one_more p first v some f in
    let there : (v +ℤ pos 1) +ℤ pos n ≡ v +ℤ pos (suc n) = omega (arith, ints) in
    step (agrees p v) (filter (agrees p) (count_from (v +ℤ pos 1) n)) (below p v) (below p (v +ℤ pos 1)) (below p ((v +ℤ pos 1) +ℤ pos n)) one rest ∙ ap (below p) there
  where
    step : (b : Bool) (xs : List ℤ) (was now all : ℕ) → now ≡ was + one_of b → length xs + now ≡ all → length (cond b (v ∷ xs) xs) + was ≡ all
    step true xs was now all e g = omega (arith, e, g)
    step false xs was now all e g = omega (arith, e, g)

rises : (p : Pattern) (first n : ℕ) (v : ℤ) → 1 ≤ p.width → IsLowestFixed p first → below p v ≤ below p (v +ℤ pos n)
rises p first n v some f = let h = counted_from p first n v some f in omega (arith, h)

span_counted : (p : Pattern) (first : ℕ) (low high : ℤ) → 1 ≤ p.width → IsLowestFixed p first → length (filter (agrees p) (span (low, high))) ≡ below p (high +ℤ pos 1) - below p low
unfolding span
span_counted p first low high some f =
    elim (cases_of high low) [
      | inl empty ↦
          let none = size_of_none (low, high) empty in
          let at = far (high +ℤ pos 1) low (omega (arith, ints, empty)) in
          let less = rises p first at.0 (high +ℤ pos 1) some f in
          let is : below p ((high +ℤ pos 1) +ℤ pos at.0) ≡ below p low = ap (below p) (sym at.1) in
          ap (λ (n : ℕ). length (filter (agrees p) (count_from low n))) none ∙ omega (arith, less, is)
      | inr some' ↦
          let many' = size_of_some (low, high) some' in
          let end : low +ℤ pos (size (low, high)) ≡ high +ℤ pos 1 = omega (arith, ints, many') in
          let all = counted_from p first (size (low, high)) low some f ∙ ap (below p) end in
          omega (arith, all)
    ]

pub within_is : (p : Pattern) (low high : ℤ) (first last from to : ℕ) → 1 ≤ p.width → p.width ≤ 64 → p.free < 2 ^ 64 → first ≡ distance p (low +ℤ pos 0) → last ≡ distance p (high +ℤ pos 1) → from ≡ met_below p p.width first → to ≡ met_below p p.width last
    → to - from ≡ length (filter (agrees p) (span (low, high)))
unfolding below
within_is p low high first last from to some h f at end a b =
    let start : from ≡ below p low = a ∙ ap (met_below p p.width) (at ∙ ap (distance p) (same low)) in
    let stop : to ≡ below p (high +ℤ pos 1) = b ∙ ap (met_below p p.width) end in
    (λ i. stop i - start i) ∙ sym (span_counted p _ low high some (fixed_place p h f))
  where
    same : (v : ℤ) → v +ℤ pos 0 ≡ v
    same v = omega (arith, ints)

pub below_few : (p : Pattern) (n from to count : ℕ) → p.width ≤ 64 → to ≡ met_below p p.width n → n ≤ 2 ^ p.width → count ≡ to - from → count ≤ 2 ^ 64
below_few p n from to count h is le e =
    let few = many_few (meets p p.width) n in
    let some : 0 < 2 = omega arith in
    let most : 2 ^ p.width ≤ 2 ^ 64 = pow-le-pow_right some h in
    omega (arith, few, most, is, le, e)

-- ---- a set

pub length-filter-append : (f : ℤ → Bool) (xs ys : List ℤ) → length (filter f (xs ++ ys)) ≡ length (filter f xs) + length (filter f ys)
length-filter-append f [] ys = omega arith
length-filter-append f (x ∷ xs) ys = by (f x) (length-filter-append f xs ys)
  where
    by : (b : Bool) → length (filter f (xs ++ ys)) ≡ length (filter f xs) + length (filter f ys) → length (cond b (x ∷ filter f (xs ++ ys)) (filter f (xs ++ ys))) ≡ length (cond b (x ∷ filter f xs) (filter f xs)) + length (filter f ys)
    by true h = omega (arith, h)
    by false h = h

none_counted : (f : ℤ → Bool) → length (filter f (written [])) ≡ 0
unfolding written
none_counted f = refl

pub set_begin : (f : ℤ → Bool) (ranges : List (ℤ × ℤ)) → 0 ≡ length (filter f (written (take 0 ranges)))
set_begin f ranges = sym (none_counted f)

-- one interval more
pub set_step : (f : ℤ → Bool) (slice ranges : List (ℤ × ℤ)) (i : ℕ) (r : ℤ × ℤ) (old next : ℕ) → slice ≡ ranges → i < length slice → r ≡ get_or slice i r → old ≡ length (filter f (written (take i ranges))) → next ≡ length (filter f (span (r.0, r.1))) → old + next ≡ length (filter f (written (take (i + 1) ranges)))
unfolding written
set_step f slice ranges i r old next same few at was more =
    let lt : i < length ranges = subst (λ (rs : List (ℤ × ℤ)). i < length rs) same few in
    let is : r ≡ get_or ranges i r = subst (λ (rs : List (ℤ × ℤ)). r ≡ get_or rs i r) same at in
    let one : written (take (i + 1) ranges) ≡ written (take i ranges) ++ span r = ap written (take_more ranges i r lt) ∙ (snoc (take i ranges) (get_or ranges i r) ∙ ap (λ (x : ℤ × ℤ). written (take i ranges) ++ span x) (sym is)) in
    (λ i. was i + more i) ∙ (sym (length-filter-append f (written (take i ranges)) (span r)) ∙ ap (λ (xs : List ℤ). length (filter f xs)) (sym one))
  where
    snoc : (rs : List (ℤ × ℤ)) (r : ℤ × ℤ) → written (rs ++ r ∷ []) ≡ written rs ++ span r
    snoc [] r = append-nil (span r)
    snoc (x ∷ rs) r = ap (λ (ns : List ℤ). span x ++ ns) (snoc rs r) ∙ sym (append_assoc (span x) (written rs) (span r))

pub set_room : (old i next : ℕ) → old ≤ i * 2 ^ 64 → next ≤ 2 ^ 64 → old + next ≤ (i + 1) * 2 ^ 64
set_room old i next was few = omega (arith, was, few)

pub set_end : (f : ℤ → Bool) (slice ranges : List (ℤ × ℤ)) (i count : ℕ) → slice ≡ ranges → length slice ≤ i → count ≡ length (filter f (written (take i ranges))) → count ≡ length (filter f (written ranges))
set_end f slice ranges i count same past is = is ∙ ap (λ (rs : List (ℤ × ℤ)). length (filter f (written rs))) (take_all i ranges (subst (λ (rs : List (ℤ × ℤ)). length rs ≤ i) same past))
