-- The cuts of sets, each once, and how many are in a span.
use Rattle.std.proofs.Common.{◌≡◌, ◌⊎◌, ℕ, zero, suc, ◌+◌, ◌-◌, ◌^◌, ◌<◌, ◌≤◌, List, [], ◌∷◌, ◌++◌, length, All, Bool, true, false, cond, Option, None, Some, refl, ap, sym, ◌∙◌, subst, inl, inr, arith}
use Rattle.std.specs.Prelude.{slice_index, nat_le, nat_lt}
use Rattle.std.specs.List.{Contains, AllPairs, AllByRecursion, flat_map, filter}
use mathlib.Core.Bool.{◌&&◌}
use Rattle.std.proofs.lemmas.List.{append_assoc, get_or_default}
use Rattle.std.proofs.lemmas.List.Elements.{Contains-append_left, Contains-append_right, All-from_recursion}
use Rattle.std.proofs.lemmas.List.Quantifiers.{all_pairs_push}
use Rattle.std.proofs.lemmas.Bool.{cases_lt, le-leb, lt-leb, lt-ltb, false≢true}
use Rattle.value_index.specs.declared.sets.Span.{Span}
use Rattle.value_index.specs.Found.{in_span}
use Rattle.value_index.specs.Segments.{Ascends, IsSegment}
use Rattle.value_index.specs.Built.{HasEnds, HasAllEnds}
use Rattle.value_index.specs.Sizes.{ends_of, all_ends, AreCuts}

-- ---- ends

pub two_ends : (b : Bool) (old one two : List ℕ) (low next : ℕ) → b ≡ true → one ≡ old ++ low ∷ [] → two ≡ one ++ next ∷ [] → two ≡ old ++ low ∷ cond b (next ∷ []) []
two_ends true old one two low next e first second = second ∙ ap (λ (xs : List ℕ). xs ++ next ∷ []) first ∙ append_assoc old (low ∷ []) (next ∷ [])
two_ends false old one two low next e first second = absurd (false≢true e)

pub one_end : (b : Bool) (old one : List ℕ) (low next : ℕ) → b ≡ false → one ≡ old ++ low ∷ [] → one ≡ old ++ low ∷ cond b (next ∷ []) []
one_end false old one low next e first = first
one_end true old one low next e first = absurd (false≢true (sym e))

in_first : (x : ℕ) (xs : List ℕ) → Contains (x ∷ xs) x
in_first x xs = (zero, omega arith, refl)

in_later : (x : ℕ) (xs : List ℕ) (y : ℕ) → Contains xs y → Contains (x ∷ xs) y
in_later x xs y c = Contains-append_right (x ∷ []) xs y c

low_end : (span : Span) → Contains (ends_of span) span.low
low_end span = in_first span.low (cond (nat_lt span.high (2 ^ 64 - 1)) ((span.high + 1) ∷ []) [])

past_end : (span : Span) → span.high + 1 < 2 ^ 64 → Contains (ends_of span) (span.high + 1)
past_end span fits = subst (λ (b : Bool). Contains (span.low ∷ cond b ((span.high + 1) ∷ []) []) (span.high + 1)) (sym (lt-ltb span.high (2 ^ 64 - 1) (omega (arith, fits)))) (in_later span.low ((span.high + 1) ∷ []) (span.high + 1) (in_first (span.high + 1) []))

pub zero_end : (sets : List (List Span)) → Contains (all_ends sets) 0
zero_end sets = in_first 0 (flat_map (flat_map ends_of) sets)

module _ (cuts : List ℕ) where
  has_ends : (spans : List Span) → ((x : ℕ) → Contains (flat_map ends_of spans) x → Contains cuts x) → AllByRecursion (HasEnds cuts) spans
  has_ends [] keep = tt
  has_ends (span ∷ spans) keep = (
    record { low = keep span.low (Contains-append_left (ends_of span) (flat_map ends_of spans) span.low (low_end span)); past = λ fits. keep (span.high + 1) (Contains-append_left (ends_of span) (flat_map ends_of spans) (span.high + 1) (past_end span fits)) },
    has_ends spans (λ x h. keep x (Contains-append_right (ends_of span) (flat_map ends_of spans) x h)),
  )

  have_ends : (sets : List (List Span)) → ((x : ℕ) → Contains (flat_map (flat_map ends_of) sets) x → Contains cuts x) → AllByRecursion (λ spans. All (HasEnds cuts) spans) sets
  have_ends [] keep = tt
  have_ends (spans ∷ sets) keep = (
    All-from_recursion (HasEnds cuts) spans (has_ends spans (λ x h. keep x (Contains-append_left (flat_map ends_of spans) (flat_map (flat_map ends_of) sets) x h))),
    have_ends sets (λ x h. keep x (Contains-append_right (flat_map ends_of spans) (flat_map (flat_map ends_of) sets) x h)),
  )

  pub all_have_ends : (sets : List (List Span)) → AreCuts sets cuts → HasAllEnds cuts sets
  all_have_ends sets are = All-from_recursion (λ spans. All (HasEnds cuts) spans) sets (have_ends sets (λ x h. (are.same x).1 (in_later 0 (flat_map (flat_map ends_of) sets) x h)))

  pub ascends_of : AllPairs (λ a b. a < b) cuts → Ascends cuts
  ascends_of up = record { at = λ i j le within. at i j le within (cases_lt i j) }
    where
      at : (i j : ℕ) → i ≤ j → j < length cuts → (i < j) ⊎ (j ≤ i) → slice_index cuts i ≤ slice_index cuts j
      at i j le within (inl lt) = let less : slice_index cuts i < slice_index cuts j = up i j 0 lt within in omega (arith, less)
      at i j le within (inr ge) = let same : i ≡ j = omega (arith, le, ge) in rw same (omega arith)

-- ---- each once

-- the next cut isn't the last one, and so stands above all
module _ (out : List ℕ) (last : Option ℕ) (x : ℕ) (up : AllPairs (λ a b. a < b) out)
    (top : (y s : ℕ) → last ≡ Some y → s < length out → slice_index out s ≤ y) (none : last ≡ None → length out ≡ 0)
    (among : (y : ℕ) → last ≡ Some y → Contains out y) (below : (s : ℕ) → s < length out → slice_index out s ≤ x) (other : last ≡ Some x → ⊥) where
  above : (l : Option ℕ) → last ≡ l → (s : ℕ) → s < length out → slice_index out s < x
  above None e s lt = absurd (omega (arith, none e, lt))
  above (Some y) e s lt = elim (cases_lt y x) [
    | inl less ↦ let le : slice_index out s ≤ y = top y s e lt in omega (arith, le, less)
    | inr more ↦
        let has = among y e in
        let le : slice_index out has.0 ≤ x = below has.0 has.1 in
        let same : y ≡ x = omega (arith, more, le, has.2, get_or_default out has.0 y 0 has.1) in
        absurd (other (e ∙ ap Some same))
  ]

  pub up_push : AllPairs (λ a b. a < b) (out ++ x ∷ [])
  up_push = all_pairs_push (λ a b. a < b) out x up (λ k d lt. let less : slice_index out k < x = above last refl k lt in omega (arith, less, get_or_default out k d 0 lt))

-- ---- how many

no_right : (a b : Bool) → b ≡ false → (a && b) ≡ false
no_right true b e = e
no_right false b e = refl

both : (a b : Bool) → a ≡ true → b ≡ true → (a && b) ≡ true
both true b e f = f
both false b e f = e

-- a list that passes a test from one place to another
module _ (test : ℕ → Bool) where
  kept : (b : Bool) (x : ℕ) (xs : List ℕ) → b ≡ true → length (cond b (x ∷ xs) xs) ≡ length xs + 1
  kept true x xs e = omega arith
  kept false x xs e = absurd (false≢true e)

  left_out : (b : Bool) (x : ℕ) (xs : List ℕ) → b ≡ false → length (cond b (x ∷ xs) xs) ≡ length xs
  left_out false x xs e = refl
  left_out true x xs e = absurd (false≢true (sym e))

  record Passes (xs : List ℕ) (from to : ℕ) : Type 0 where
    ends : to ≤ length xs
    before : (s : ℕ) → s < from → s < length xs → test (slice_index xs s) ≡ false
    inside : (s : ℕ) → from ≤ s → s < to → test (slice_index xs s) ≡ true
    after : (s : ℕ) → to ≤ s → s < length xs → test (slice_index xs s) ≡ false

  count_between : (xs : List ℕ) (from to : ℕ) → Passes xs from to → length (filter test xs) ≡ to - from
  count_between [] from to p = omega (arith, p.ends)
  count_between (x ∷ xs) zero zero p =
      left_out (test x) x (filter test xs) (p.after 0 (omega arith) (omega arith))
      ∙ count_between xs 0 0 (record { ends = omega arith; before = λ s lt within. absurd (omega (arith, lt)); inside = λ s le lt. absurd (omega (arith, lt)); after = λ s le within. p.after (suc s) (omega arith) (omega (arith, within)) })
  count_between (x ∷ xs) zero (suc to) p =
      let rest : length (filter test xs) ≡ to - 0 = count_between xs 0 to (record { ends = omega (arith, p.ends); before = λ s lt within. absurd (omega (arith, lt)); inside = λ s le lt. p.inside (suc s) (omega arith) (omega (arith, lt)); after = λ s le within. p.after (suc s) (omega (arith, le)) (omega (arith, within)) }) in
      let first : length (filter test (x ∷ xs)) ≡ length (filter test xs) + 1 = kept (test x) x (filter test xs) (p.inside 0 (omega arith) (omega arith)) in
      omega (arith, rest, first)
  count_between (x ∷ xs) (suc from) zero p =
      let rest : length (filter test xs) ≡ 0 - from = count_between xs from 0 (record { ends = omega arith; before = λ s lt within. p.before (suc s) (omega (arith, lt)) (omega (arith, within)); inside = λ s le lt. absurd (omega (arith, lt)); after = λ s le within. p.after (suc s) (omega arith) (omega (arith, within)) }) in
      let first : length (filter test (x ∷ xs)) ≡ length (filter test xs) = left_out (test x) x (filter test xs) (p.before 0 (omega arith) (omega arith)) in
      omega (arith, rest, first)
  count_between (x ∷ xs) (suc from) (suc to) p =
      let rest : length (filter test xs) ≡ to - from = count_between xs from to (record { ends = omega (arith, p.ends); before = λ s lt within. p.before (suc s) (omega (arith, lt)) (omega (arith, within)); inside = λ s le lt. p.inside (suc s) (omega (arith, le)) (omega (arith, lt)); after = λ s le within. p.after (suc s) (omega (arith, le)) (omega (arith, within)) }) in
      let first : length (filter test (x ∷ xs)) ≡ length (filter test xs) = left_out (test x) x (filter test xs) (p.before 0 (omega arith) (omega arith)) in
      omega (arith, rest, first)

pub cuts_between : (cuts : List ℕ) (span : Span) (from segment : ℕ) → Ascends cuts
    → ((s : ℕ) → s < from → slice_index cuts s < span.low) → ((s : ℕ) → from ≤ s → s < length cuts → span.low ≤ slice_index cuts s)
    → IsSegment cuts span.high segment → length (filter (λ cut. in_span cut span) cuts) ≡ (segment + 1) - from
cuts_between cuts span from segment up below above at = count_between (λ cut. in_span cut span) cuts from (segment + 1) (record {
  ends = omega (arith, at.within);
  before = λ s lt within. ap (λ (b : Bool). b && nat_le (slice_index cuts s) span.high) (lt-leb span.low (slice_index cuts s) (below s lt));
  inside = λ s le lt.
      let up_to : slice_index cuts s ≤ slice_index cuts segment = up.at s segment (omega (arith, lt)) at.within in
      both (nat_le span.low (slice_index cuts s)) (nat_le (slice_index cuts s) span.high) (le-leb span.low (slice_index cuts s) (above s le (omega (arith, lt, at.within)))) (le-leb (slice_index cuts s) span.high (omega (arith, up_to, at.below)));
  after = λ s le within. no_right (nat_le span.low (slice_index cuts s)) (nat_le (slice_index cuts s) span.high) (lt-leb (slice_index cuts s) span.high (at.above s (omega (arith, le)) within));
})
