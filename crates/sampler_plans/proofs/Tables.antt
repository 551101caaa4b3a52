-- Two tables row by row.
use Rattle.std.proofs.Common.{◌≡◌, ℕ, ◌+◌, ◌<◌, ◌≤◌, zero, suc, List, [], ◌∷◌, length, get_or, take, map, Some, None, inl, inr, refl, sym, ap, subst, ◌∙◌, arith}
use Rattle.std.specs.Prelude.{slice_get, option_map}
use Rattle.std.proofs.lemmas.Bool.{cases_order}
use Rattle.std.proofs.lemmas.List.{take_more_same, length-map}
use Rattle.std.proofs.lemmas.Option.{slice_get-get_or, slice_get_past, slice_get_read, slice_get-map, get_or_from_slice_get}
use Rattle.record_codec.specs.declared.record.Record.{Record}
use Rattle.design_data.specs.declared.design.Design.{Design}
use Rattle.cov_counting.specs.Tables.{signals_of, instances_of}
use Rattle.sampler_plans.specs.Shape.{Fits, FirstDiffering, IsWrongAt}

-- what agrees up to a place agrees at each place before it
taken : {A : Type 0} (rows others : List A) (at place : ℕ) → place < at → take at rows ≡ take at others → slice_get rows place ≡ slice_get others place
taken [] [] at place lt e = refl
taken [] (y ∷ others) zero place lt e = absurd (omega arith)
taken [] (y ∷ others) (suc at) place lt e = absurd cc
taken (x ∷ rows) [] zero place lt e = absurd (omega arith)
taken (x ∷ rows) [] (suc at) place lt e = absurd cc
taken (x ∷ rows) (y ∷ others) zero place lt e = absurd (omega arith)
taken (x ∷ rows) (y ∷ others) (suc at) zero lt e = let h : x ≡ y = cc in ap Some h
taken (x ∷ rows) (y ∷ others) (suc at) (suc place) lt e = let t : take at rows ≡ take at others = cc in taken rows others at place (omega arith) t

first_one : {A : Type 0} (rows others : List A) (at place : ℕ) → FirstDiffering rows others at → FirstDiffering rows others place → at ≡ place
first_one rows others at place h k = elim (cases_order at place) [
  | inl e ↦ e
  | inr (inl lt) ↦ absurd (h.here (taken rows others place at lt k.before))
  | inr (inr lt) ↦ absurd (k.here (taken rows others at place lt h.before))
]

-- equal tables differ nowhere
none_differs : {A : Type 0} (rows others : List A) (at : ℕ) → rows ≡ others → FirstDiffering rows others at → ⊥
none_differs rows others at e h = h.here (ap (λ (l : List _). slice_get l at) e)

-- the place at which a record doesn't fit is one
pub place_one : (d : Design) (r : Record) (at place : ℕ) → IsWrongAt d r at → IsWrongAt d r place → at ≡ place
place_one d r at place h k = elim h [
  | inl a ↦ elim k [
    | inl b ↦ first_one r.signals (signals_of d) at place a b
    | inr b ↦ absurd (none_differs r.signals (signals_of d) at b.signals a)
  ]
  | inr a ↦ elim k [
    | inl b ↦ absurd (none_differs r.signals (signals_of d) place a.signals b)
    | inr b ↦ a.counted ∙ ap (λ (n : ℕ). length (signals_of d) + n) (first_one r.instances (instances_of d r.version) a.place b.place a.differ b.differ) ∙ sym b.counted
  ]
]

-- a record that differs somewhere doesn't fit
pub does_not_fit : (d : Design) (r : Record) (at : ℕ) → IsWrongAt d r at → Fits d r → ⊥
does_not_fit d r at h fits = elim h [
  | inl a ↦ none_differs r.signals (signals_of d) at fits.signals a
  | inr a ↦ none_differs r.instances (instances_of d r.version) a.place fits.instances a.differ
]

-- ---- rows one by one

-- tables that agree up to a place, and whose rows agree there
pub row_more : {A B : Type 0} (f : A → B) (xs : List A) (rows : List B) (at : ℕ) (x : A) (d : B) → at < length xs → at < length rows → x ≡ get_or xs at x → get_or rows at d ≡ f x → take at rows ≡ take at (map f xs) → take (at + 1) rows ≡ take (at + 1) (map f xs)
row_more f xs rows at x d lt within is same before =
    let there : slice_get (map f xs) at ≡ Some (f x) = slice_get-map f xs at ∙ ap (option_map f) (slice_get_read xs (length xs) at x refl lt is) in
    take_more_same rows (map f xs) at d within (subst (λ (n : ℕ). at < n) (sym (length-map xs f)) lt) before (same ∙ sym (get_or_from_slice_get (map f xs) at (f x) d there))

there_is : {A : Type 0} (rows : List A) (at : ℕ) → at < length rows → slice_get rows at ≡ None → ⊥
there_is [] at lt e = absurd (omega arith)
there_is (row ∷ rows) at lt e = let some = slice_get-get_or (row ∷ rows) at row lt in absurd (cc (some, e))

-- tables that agree up to the end of one, behind which the other goes on
pub goes_on : {A B : Type 0} (f : A → B) (xs : List A) (rows : List B) → length xs < length rows → take (length xs) rows ≡ take (length xs) (map f xs) → FirstDiffering rows (map f xs) (length xs)
goes_on f xs rows more before = record {
  before = before;
  here = λ e. let none = slice_get_past (map f xs) (length xs) (subst (λ (n : ℕ). n ≤ length xs) (sym (length-map xs f)) (omega arith)) in
      let past : slice_get rows (length xs) ≡ None = e ∙ none in
      there_is rows (length xs) more past;
}
