-- From the hits of the tests to what the definition says of them, and from a row to the next.
use Rattle.std.proofs.Common.{◌≡◌, ℕ, zero, suc, ◌-◌, ◌<◌, ◌≤◌, min, List, [], ◌∷◌, length, set, refl, sym, ap, ◌∙◌, arith, inl, inr, Option, Bool, true, false}
use Rattle.std.specs.Prelude.{map, slice_index, slice_index_or}
use Rattle.std.proofs.lemmas.List.{length-map, get_or-map, get_or-set_same, get_or-set_other}
use Rattle.std.proofs.lemmas.List.Sums.{sum_by-cons}
use Rattle.std.proofs.lemmas.Bool.{cases_eq}
use Rattle.tally.specs.Rows.{count_in}
use Rattle.tally.specs.declared.ranked.Ranked.{Ranked}
use Rattle.rank_report.specs.Ranking.{Test, test_at}
use Rattle.rank_report.specs.Steps.{added, less, hits_from, added_by, less_by, open_gain, IsBest, StandAbove}
use Rattle.rank_report.proofs.Greatest.{open_here, taken_here}
use Rattle.rank_report.proofs.HitsLemmas.{IsOf, adds, leaves}

pub is_of_less : (test : Test) (ms ws : List (ℕ × ℕ)) → IsOf ms ws → IsOf (less test ms) ws
is_of_less test [] [] u = tt
is_of_less test [] (w ∷ ws) u = absurd u
is_of_less test (m ∷ ms) [] u = absurd u
is_of_less test (m ∷ ms) (w ∷ ws) u = (u.0, omega (arith, u.1), is_of_less test ms ws u.2)

-- ---- gains never grow

pub never_grows : (test other : Test) (missing : List (ℕ × ℕ)) → added test (less other missing) ≤ added test missing
never_grows test other [] = omega arith
never_grows test other (m ∷ missing) =
    let rest = never_grows test other missing in
    let a = sum_by-cons (λ (pair : ℕ × ℕ). min pair.1 (count_in test pair.0)) (m.0, m.1 - count_in other m.0) (less other missing) in
    let b = sum_by-cons (λ (pair : ℕ × ℕ). min pair.1 (count_in test pair.0)) m missing in
    omega (arith, rest, a, b)

module _ (tests : List Test) (other : Test) (missing : List (ℕ × ℕ)) (taken : List Bool) (numbers : List ℕ) (at : ℕ) (inside : at < length taken) where
  -- a test that isn't taken wasn't before
  unmarked : (index : ℕ) → slice_index_or (set taken at true) index false ≡ false → slice_index_or taken index false ≡ false
  unmarked index e = elim (cases_eq at index) [
    | inl same ↦ absurd (differ (sym (get_or-set_same taken at true false inside) ∙ (ap (λ (k : ℕ). slice_index_or (set taken at true) k false) same ∙ e)))
    | inr ne ↦ sym (get_or-set_other taken at index true false (λ e. ne (sym e))) ∙ e
  ]
    where
      differ : true ≡ false → ⊥
      differ e = cc

  stays : (index : ℕ) (mark : Bool) → index < length tests → slice_index_or (set taken at true) index false ≡ mark → StandAbove (map (λ test. added test missing) tests) taken numbers
      → open_gain (map (λ test. added test (less other missing)) tests) (set taken at true) index ≤ open_gain numbers (set taken at true) index
  stays index true lt e above =
      let z = taken_here (map (λ test. added test (less other missing)) tests) (set taken at true) index e in
      omega (arith, z)
  stays index false lt e above =
      let before = unmarked index e in
      let new = open_here (map (λ test. added test (less other missing)) tests) (set taken at true) index e in
      let old = open_here (map (λ test. added test missing) tests) taken index before in
      let left = open_here numbers (set taken at true) index e in
      let was = open_here numbers taken index before in
      let new_is : slice_index (map (λ test. added test (less other missing)) tests) index ≡ added (test_at tests index) (less other missing) = get_or-map (λ test. added test (less other missing)) tests index [] 0 lt in
      let old_is : slice_index (map (λ test. added test missing) tests) index ≡ added (test_at tests index) missing = get_or-map (λ test. added test missing) tests index [] 0 lt in
      let grows = never_grows (test_at tests index) other missing in
      let high = above index (omega (arith, length-map tests (λ test. added test missing))) in
      omega (arith, new, old, left, was, new_is, old_is, grows, high)

  pub still_above : StandAbove (map (λ test. added test missing) tests) taken numbers → StandAbove (map (λ test. added test (less other missing)) tests) (set taken at true) numbers
  still_above above index lt = stays index (slice_index_or (set taken at true) index false) (omega (arith, length-map tests (λ test. added test (less other missing)))) refl above

-- ---- hits and tests

gains_of_hits : {X : Type 0} (h : X → Test) (xs : List X) (wanted missing : List (ℕ × ℕ)) → IsOf missing wanted → map (λ hits. added_by hits missing) (map (λ x. hits_from 0 (h x) wanted) xs) ≡ map (λ test. added test missing) (map h xs)
gains_of_hits h [] wanted missing u = refl
gains_of_hits h (x ∷ xs) wanted missing u = joined (adds (h x) wanted missing [] 0 refl u) (gains_of_hits h xs wanted missing u)
  where
    joined : {n m : ℕ} {xs ys : List ℕ} → n ≡ m → xs ≡ ys → n ∷ xs ≡ m ∷ ys
    joined {n} {m} {xs} {ys} e f = rw (e, f) refl

module _ {X : Type 0} (h : X → Test) (xs : List X) (wanted : List (ℕ × ℕ)) (hits : List (List (ℕ × ℕ))) (are : hits ≡ map (λ x. hits_from 0 (h x) wanted) xs) where
  pub gains_are : (missing : List (ℕ × ℕ)) → IsOf missing wanted → map (λ hit. added_by hit missing) hits ≡ map (λ test. added test missing) (map h xs)
  gains_are missing u = ap (map (λ hit. added_by hit missing)) are ∙ gains_of_hits h xs wanted missing u

  pub next_best : (hits' : List (List (ℕ × ℕ))) (missing' missing : List (ℕ × ℕ)) (taken' taken : List Bool) (next next' : Option Ranked) → IsOf missing wanted → hits' ≡ hits → missing' ≡ missing → taken' ≡ taken → next ≡ next'
      → IsBest (map (λ hit. added_by hit missing') hits') taken' next → IsBest (map (λ test. added test missing) (map h xs)) taken next'
  next_best hits' missing' missing taken' taken next next' u e f g n b = rw (← gains_are missing u, ← e, ← f, ← g) (rw n at b)

  pub next_above : (hits' : List (List (ℕ × ℕ))) (missing' missing left : List (ℕ × ℕ)) (taken' taken : List Bool) (numbers written : List ℕ) (other : Test) (at : ℕ) → IsOf missing wanted → hits' ≡ hits → missing' ≡ missing → taken' ≡ taken → written ≡ numbers
      → left ≡ less other missing → at < length taken → StandAbove (map (λ hit. added_by hit missing') hits') taken' numbers → StandAbove (map (λ hit. added_by hit left) hits) (set taken at true) written
  next_above hits' missing' missing left taken' taken numbers written other at u e f g w l inside above =
      let before : StandAbove (map (λ test. added test missing) (map h xs)) taken numbers = rw (← gains_are missing u, ← e, ← f, ← g) above in
      rw (w, l, gains_are (less other missing) (is_of_less other missing wanted u)) (still_above (map h xs) other missing taken numbers at inside before)

  -- the hits at an index take off what its test does
  pub fills : (missing : List (ℕ × ℕ)) (at : ℕ) (hit : List (ℕ × ℕ)) → IsOf missing wanted → at < length xs → hit ≡ slice_index_or hits at hit → less_by hit missing ≡ less (test_at (map h xs) at) missing
  fills missing at hit u lt is = rw (is_hit) (leaves (test_at (map h xs) at) wanted missing [] 0 refl u)
    where
      at_place : {Y : Type 0} (h : Y → Test) (ys : List Y) (k : ℕ) (d : List (ℕ × ℕ)) → k < length ys → slice_index_or (map (λ y. hits_from 0 (h y) wanted) ys) k d ≡ hits_from 0 (test_at (map h ys) k) wanted
      at_place h [] k d lt = absurd (omega arith)
      at_place h (y ∷ ys) zero d lt = refl
      at_place h (y ∷ ys) (suc k) d lt = at_place h ys k d (omega arith)

      is_hit : hit ≡ hits_from 0 (test_at (map h xs) at) wanted
      is_hit = is ∙ (ap (λ (l : List (List (ℕ × ℕ))). slice_index_or l at hit) are ∙ at_place h xs at hit lt)

pub first_above : (gains gains' : List ℕ) (taken : List Bool) → gains' ≡ gains → StandAbove gains taken gains'
first_above gains gains' taken e index lt = let s : open_gain gains' taken index ≡ open_gain gains taken index = ap (λ (l : List ℕ). open_gain l taken index) e in omega (arith, s)
