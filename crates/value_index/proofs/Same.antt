-- All values of a segment are in the same sets.
use Rattle.std.proofs.Common.{◌≡◌, ◌⊎◌, ℕ, ◌+◌, ◌^◌, ◌<◌, ◌≤◌, List, [], ◌∷◌, All, Bool, cond, refl, ap, sym, ◌∙◌, inl, inr, arith}
use Rattle.std.specs.Prelude.{slice_index, nat_le}
use Rattle.std.specs.List.{Contains, AllByRecursion}
use mathlib.Core.Bool.{◌&&◌, ◌||◌}
use Rattle.std.proofs.lemmas.List.Elements.{recursion_from_All}
use Rattle.std.proofs.lemmas.List.{get_or_default}
use Rattle.std.proofs.lemmas.Bool.{cases_lt, le-leb, lt-leb}
use Rattle.value_index.specs.declared.sets.Span.{Span}
use Rattle.value_index.specs.Segments.{Ascends, IsSegment}
use Rattle.value_index.specs.Found.{in_span, in_set, places}
use Rattle.value_index.specs.Built.{HasEnds, HasAllEnds}

module _ (cuts : List ℕ) (v s : ℕ) (up : Ascends cuts) (fits : v < 2 ^ 64) (at : IsSegment cuts v s) where
  -- a cut up to v is up to the segment's
  reached : (x : ℕ) → Contains cuts x → x ≤ v → x ≤ slice_index cuts s
  reached x has le = go (cases_lt s has.0)
    where
      go : (s < has.0) ⊎ (has.0 ≤ s) → x ≤ slice_index cuts s
      go (inl lt) = let past : v < slice_index cuts has.0 = at.above has.0 lt has.1 in absurd (omega (arith, past, has.2, get_or_default cuts has.0 x 0 has.1))
      go (inr le') = let before : slice_index cuts has.0 ≤ slice_index cuts s = up.at has.0 s le' at.within in omega (arith, before, has.2, get_or_default cuts has.0 x 0 has.1)

  same_span : (span : Span) → HasEnds cuts span → in_span (slice_index cuts s) span ≡ in_span v span
  same_span span ends = ap (λ (b : Bool). b && nat_le (slice_index cuts s) span.high) (low (cases_lt v span.low)) ∙ ap (λ (b : Bool). nat_le span.low v && b) (high (cases_lt span.high v))
    where
      low : (v < span.low) ⊎ (span.low ≤ v) → nat_le span.low (slice_index cuts s) ≡ nat_le span.low v
      low (inl lt) = lt-leb span.low (slice_index cuts s) (omega (arith, at.below)) ∙ sym (lt-leb span.low v lt)
      low (inr le) = le-leb span.low (slice_index cuts s) (reached span.low ends.low le) ∙ sym (le-leb span.low v le)

      high : (span.high < v) ⊎ (v ≤ span.high) → nat_le (slice_index cuts s) span.high ≡ nat_le v span.high
      high (inl lt) = let next : span.high + 1 ≤ slice_index cuts s = reached (span.high + 1) (ends.past (omega (arith, fits))) (omega arith) in lt-leb (slice_index cuts s) span.high (omega arith) ∙ sym (lt-leb v span.high lt)
      high (inr le) = le-leb (slice_index cuts s) span.high (omega (arith, at.below)) ∙ sym (le-leb v span.high le)

  same_set : (spans : List Span) → AllByRecursion (HasEnds cuts) spans → in_set (slice_index cuts s) spans ≡ in_set v spans
  same_set [] h = refl
  same_set (span ∷ spans) h = ap (λ (b : Bool). b || in_set (slice_index cuts s) spans) (same_span span h.0) ∙ ap (λ (b : Bool). in_span v span || b) (same_set spans h.1)

  same_places_from : (i : ℕ) (sets : List (List Span)) → AllByRecursion (λ spans. All (HasEnds cuts) spans) sets → places (slice_index cuts s) i sets ≡ places v i sets
  same_places_from i [] h = refl
  same_places_from i (set ∷ sets) h = ap (λ (b : Bool). cond b (i ∷ places (slice_index cuts s) (i + 1) sets) (places (slice_index cuts s) (i + 1) sets)) (same_set set (recursion_from_All (HasEnds cuts) set h.0)) ∙ ap (λ (rest : List ℕ). cond (in_set v set) (i ∷ rest) rest) (same_places_from (i + 1) sets h.1)

  pub same_places : (sets : List (List Span)) → HasAllEnds cuts sets → places (slice_index cuts s) 0 sets ≡ places v 0 sets
  same_places sets h = same_places_from 0 sets (recursion_from_All (λ spans. All (HasEnds cuts) spans) sets h)
