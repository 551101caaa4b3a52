-- What is written of bytes is safe.
use Rattle.std.proofs.Common.{◌≡◌, ℕ, ◌<◌, ◌==◌, ◌&&◌, not, Bool, true, false, List, [], ◌∷◌, ◌++◌, refl, ◌∙◌, ap, append_assoc, if◌then◌else◌, bytes_eq}
use Rattle.std.specs.List.{list_all}
use Rattle.std.proofs.lemmas.List.Elements.{All-head, All-tail}
use Rattle.markup.specs.Escaping.{is_plain, is_of_reference, reference, meaning, escape_byte, escape, is_safe_from}
use Rattle.markup.specs.Laws.{IsSafe}
use Rattle.markup.proofs.Bytes.{goes_on, is_written_as, both, chosen_else, written}

both_are : (a b : Bool) → a ≡ true → b ≡ true → (a && b) ≡ true
both_are true b e f = f
both_are false b e f = e

-- a reference that goes on to its end is safe where what stands behind it is
name_safe : (name rest : List ℕ) → list_all goes_on name ≡ true → is_safe_from false rest ≡ true → is_safe_from true (name ++ 59 ∷ rest) ≡ true
name_safe [] rest h s = s
name_safe (b ∷ name) rest h s =
    let parts = both (goes_on b) (list_all goes_on name) h in
    let own = both (is_of_reference b) (not (b == 59)) parts.0 in
    chosen_else (b == 59) _ _ own.1 ∙ both_are (is_of_reference b) _ own.0 (name_safe name rest parts.1 s)

byte_safe_as : (byte : ℕ) (rest : List ℕ) (plain : Bool) → is_written_as plain byte ≡ true → is_safe_from false rest ≡ true → is_safe_from false ((if plain then byte ∷ [] else 38 ∷ (reference byte ++ 59 ∷ [])) ++ rest) ≡ true
byte_safe_as byte rest true h s =
    let own = both (is_plain byte) (not (byte == 38)) h in
    chosen_else (byte == 38) _ _ own.1 ∙ both_are (is_plain byte) _ own.0 s
byte_safe_as byte rest false h s =
    let parts = both (list_all goes_on (reference byte)) (bytes_eq (meaning (reference byte)) (byte ∷ [])) h in
    ap (is_safe_from true) (append_assoc (reference byte) (59 ∷ []) rest) ∙ name_safe (reference byte) rest parts.0 s

byte_safe : (byte : ℕ) (rest : List ℕ) → byte < 256 → is_safe_from false rest ≡ true → is_safe_from false (escape_byte byte ++ rest) ≡ true
unfolding escape_byte
byte_safe byte rest h s = byte_safe_as byte rest (is_plain byte) (written byte h) s

pub safe : IsSafe
safe [] h = refl
safe (byte ∷ bytes) h =
    byte_safe byte (escape bytes) (All-head (λ b. b < 256) byte bytes h) (safe bytes (All-tail (λ b. b < 256) byte bytes h))
