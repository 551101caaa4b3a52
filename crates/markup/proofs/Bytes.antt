-- What holds of what is written of one byte.
use Rattle.std.proofs.Common.{◌≡◌, ℕ, ◌<◌, ◌==◌, ◌&&◌, not, Bool, true, false, [], ◌∷◌, get_or, refl, sym, ◌∙◌, ap, zero-add, if◌then◌else◌, bytes_eq}
use Rattle.std.specs.Fmt.{digits}
use Rattle.std.specs.List.{list_all, range_with_len}
use Rattle.std.proofs.lemmas.List.Folds.{list_all_at}
use Rattle.std.proofs.lemmas.List.FromFn.{get_or-range_with_len}
use Rattle.markup.specs.Escaping.{is_plain, is_of_reference, reference, meaning}

-- a byte of a reference doesn't end it
abbrev pub goes_on : ℕ → Bool
goes_on byte = is_of_reference byte && not (byte == 59)

-- the byte stands for itself, and begins no reference; or its reference goes on to its end, and stands for the byte
abbrev pub is_written_as : (plain : Bool) → ℕ → Bool
is_written_as plain byte = if plain then (is_plain byte && not (byte == 38)) else (list_all goes_on (reference byte) && bytes_eq (meaning (reference byte)) (byte ∷ []))

abbrev pub is_written : ℕ → Bool
is_written byte = is_written_as (is_plain byte) byte

each_is_written : list_all is_written (range_with_len 0 256) ≡ true
unfolding meaning digits
each_is_written = refl

differ : true ≡ false → ⊥
differ e = absurd cc

pub both : (a b : Bool) → (a && b) ≡ true → (a ≡ true) × (b ≡ true)
both true b e = (refl, e)
both false b e = absurd cc

pub chosen_else : {A : Type 0} (c : Bool) (x y : A) → not c ≡ true → (if c then x else y) ≡ y
chosen_else true x y e = absurd cc
chosen_else false x y e = refl

pub written : (byte : ℕ) → byte < 256 → is_written byte ≡ true
written byte h = by_cases (is_written byte) refl
  where
    at : get_or (range_with_len 0 256) byte 0 ≡ byte
    at = get_or-range_with_len 0 256 byte 0 h ∙ zero-add byte

    by_cases : (b : Bool) → is_written byte ≡ b → is_written byte ≡ true
    by_cases true e = e
    by_cases false e = absurd (differ (sym each_is_written ∙ list_all_at is_written (range_with_len 0 256) byte 0 h (ap is_written at ∙ e)))
