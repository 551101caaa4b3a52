-- The line of the next place.
use Rattle.std.proofs.Common.{◌≡◌, ℕ, ◌+◌, ◌<◌, List, length, get_or, arith, inl, inr, refl, sym, ◌∙◌, ap, Some}
use Rattle.std.specs.Prelude.{slice_get}
use Rattle.std.proofs.lemmas.Bool.{cases_lt, eq-eqb, ne_eqb}
use Rattle.std.proofs.lemmas.Option.{get_or_from_slice_get, slice_get-get_or}
use Rattle.std.proofs.lemmas.List.Sums.{count_by_more_yes, count_by_more_no}
use Rattle.text_place.specs.Places.{newline, is_newline, IsLine}

-- behind a newline the next line begins
pub next_line : (text : List ℕ) (i line start : ℕ) → i < length text → get_or text i 0 ≡ newline → IsLine text i line start → IsLine text (i + 1) (line + 1) (i + 1)
next_line text i line start lt is l = record {
  number = let more = count_by_more_yes is_newline text i 0 lt (eq-eqb (get_or text i 0) newline is) in omega (arith, more, l.number);
  before = omega arith;
  begins = inr (i, refl, slice_get-get_or text i 0 lt ∙ ap Some is);
  whole = λ k low high. absurd (omega (arith, low, high));
}

-- any other byte is of the line
pub same_line : (text : List ℕ) (i line start : ℕ) → i < length text → (get_or text i 0 ≡ newline → ⊥) → IsLine text i line start → IsLine text (i + 1) line start
same_line text i line start lt isnt l = record {
  number = let more = count_by_more_no is_newline text i 0 lt (ne_eqb (get_or text i 0) newline isnt) in omega (arith, more, l.number);
  before = let b = l.before in omega (arith, b);
  begins = l.begins;
  whole = λ k low high. elim (cases_lt k i) [
    | inl earlier ↦ l.whole k low earlier
    | inr late ↦ let here : k ≡ i = omega (arith, late, high) in λ at. isnt (get_or_from_slice_get text i newline 0 (sym (ap (slice_get text) here) ∙ at))
  ];
}
