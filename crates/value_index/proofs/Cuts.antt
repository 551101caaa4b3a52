-- Ascending cuts, and the ends among them.
use Rattle.std.proofs.Common.{◌≡◌, ◌⊎◌, ℕ, ◌+◌, ◌<◌, ◌≤◌, List, [], ◌∷◌, ◌++◌, length, get_or, All, refl, ap, sym, ◌∙◌, inl, inr, arith, length-append}
use Rattle.std.specs.Prelude.{slice_index}
use Rattle.std.specs.List.{Contains}
use Rattle.std.proofs.lemmas.List.{get_or_append_left, get_or_push, get_or_read}
use Rattle.std.proofs.lemmas.List.Elements.{All-weaker}
use Rattle.std.proofs.lemmas.Bool.{cases_lt, false≢true, eqb-true, eq-eqb}
use Rattle.std.proofs.lemmas.Option.{none-some}
use Rattle.std.specs.Option.{option_eq}
use Rattle.std.proofs.Common.{Bool, true, false, Option, None, Some}
use lib.Dec.{eqb}
use mathlib.Core.Bool.{not}
use Rattle.value_index.specs.declared.sets.Span.{Span}
use Rattle.value_index.specs.Segments.{Ascends}
use Rattle.value_index.specs.Built.{HasEnds}

pub push_top : (xs : List ℕ) (x s : ℕ) → ((k : ℕ) → k < length xs → slice_index xs k ≤ x) → s < length (xs ++ x ∷ []) → slice_index (xs ++ x ∷ []) s ≤ x
push_top xs x s below lt = at (cases_lt s (length xs))
  where
    at : (s < length xs) ⊎ (length xs ≤ s) → slice_index (xs ++ x ∷ []) s ≤ x
    at (inl in') = rw (get_or_append_left xs (x ∷ []) 0 s in') (below s in')
    at (inr past) = let is : s ≡ length xs = omega (arith, lt, length-append xs (x ∷ [])) in rw (is, get_or_push xs x 0 (length xs) refl) (omega arith)

pub push_below : (xs cuts : List ℕ) (x i : ℕ) → Ascends cuts → i < length cuts → x ≡ get_or cuts i x → ((s k : ℕ) → s < length xs → i ≤ k → k < length cuts → slice_index xs s ≤ slice_index cuts k)
    → (s k : ℕ) → s < length (xs ++ x ∷ []) → i + 1 ≤ k → k < length cuts → slice_index (xs ++ x ∷ []) s ≤ slice_index cuts k
push_below xs cuts x i up in' is below s k lt le within = at (cases_lt s (length xs))
  where
    here : x ≡ get_or cuts i 0
    here = get_or_read cuts i x in' is 0

    at : (s < length xs) ⊎ (length xs ≤ s) → slice_index (xs ++ x ∷ []) s ≤ slice_index cuts k
    at (inl before) = rw (get_or_append_left xs (x ∷ []) 0 s before) (below s k before (omega arith) within)
    at (inr past) = let last : s ≡ length xs = omega (arith, length-append xs (x ∷ [])) in rw (last, get_or_push xs x 0 (length xs) refl, here) (up.at i k (omega arith) within)

pub ends_kept : (old new : List ℕ) → ((x : ℕ) → Contains old x → Contains new x) → (span : Span) → HasEnds old span → HasEnds new span
ends_kept old new keep span h = record { low = keep span.low h.low; past = λ fits. keep (span.high + 1) (h.past fits) }

pub all_ends_kept : (old new : List ℕ) → ((x : ℕ) → Contains old x → Contains new x) → (spans : List Span) → All (HasEnds old) spans → All (HasEnds new) spans
all_ends_kept old new keep spans h = All-weaker (HasEnds old) (HasEnds new) (ends_kept old new keep) spans h

pub zero_first : (cuts : List ℕ) → Ascends cuts → Contains cuts 0 → (0 < length cuts) × (slice_index cuts 0 ≡ 0)
zero_first cuts up has = (omega (arith, has.1), let first : slice_index cuts 0 ≤ slice_index cuts has.0 = up.at 0 has.0 (omega arith) has.1 in omega (arith, first, has.2))

pub is_last : (last : Option ℕ) (x : ℕ) → false ≡ not (option_eq eqb last (Some x)) → last ≡ Some x
is_last None x e = absurd (false≢true e)
is_last (Some y) x e = ap Some (same (eqb y x) refl e)
  where
    same : (b : Bool) → eqb y x ≡ b → false ≡ not b → y ≡ x
    same true is e = eqb-true y x is
    same false is e = absurd (false≢true e)

pub other : (last : Option ℕ) (x : ℕ) → true ≡ not (option_eq eqb last (Some x)) → last ≡ Some x → ⊥
other last x e is = false≢true (sym (e ∙ ap (λ (o : Option ℕ). not (option_eq eqb o (Some x))) is ∙ ap not (eq-eqb x x refl)))

pub not_none : (x : ℕ) → Some x ≡ None → ⊥
not_none x e = none-some x (sym e)
