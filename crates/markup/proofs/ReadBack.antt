-- What is written of bytes is read as these bytes.
use Rattle.std.proofs.Common.{◌≡◌, ℕ, ◌<◌, ◌==◌, not, Bool, true, false, List, [], ◌∷◌, ◌++◌, refl, ◌∙◌, ap, append_assoc, append-nil, if◌then◌else◌, bytes_eq}
use Rattle.std.specs.List.{list_all}
use Rattle.std.proofs.lemmas.Slice.Eq.{bytes_eq-Decides}
use Rattle.std.proofs.lemmas.List.Elements.{All-head, All-tail}
use Rattle.markup.specs.Escaping.{is_plain, reference, meaning, escape_byte, escape, read_from}
use Rattle.markup.specs.Laws.{IsReadBack}
use Rattle.markup.proofs.Bytes.{goes_on, is_written_as, both, chosen_else, written}

-- a reference is read up to its end
name_read : (before name rest : List ℕ) → list_all goes_on name ≡ true → read_from true before (name ++ 59 ∷ rest) ≡ meaning (before ++ name) ++ read_from false [] rest
name_read before [] rest h = rw append-nil refl
name_read before (b ∷ name) rest h =
    let parts = both (goes_on b) (list_all goes_on name) h in
    chosen_else (b == 59) _ _ (both _ (not (b == 59)) parts.0).1
    ∙ name_read (before ++ b ∷ []) name rest parts.1
    ∙ ap (λ (m : List ℕ). meaning m ++ read_from false [] rest) (append_assoc before (b ∷ []) name)

byte_read_as : (byte : ℕ) (rest : List ℕ) (plain : Bool) → is_written_as plain byte ≡ true → read_from false [] ((if plain then byte ∷ [] else 38 ∷ (reference byte ++ 59 ∷ [])) ++ rest) ≡ byte ∷ read_from false [] rest
byte_read_as byte rest true h = chosen_else (byte == 38) _ _ (both (is_plain byte) (not (byte == 38)) h).1
byte_read_as byte rest false h =
    let parts = both (list_all goes_on (reference byte)) (bytes_eq (meaning (reference byte)) (byte ∷ [])) h in
    ap (read_from true []) (append_assoc (reference byte) (59 ∷ []) rest)
    ∙ name_read [] (reference byte) rest parts.0
    ∙ ap (λ (m : List ℕ). m ++ read_from false [] rest) ((bytes_eq-Decides (meaning (reference byte)) (byte ∷ [])).0 parts.1)

byte_read : (byte : ℕ) (rest : List ℕ) → byte < 256 → read_from false [] (escape_byte byte ++ rest) ≡ byte ∷ read_from false [] rest
unfolding escape_byte
byte_read byte rest h = byte_read_as byte rest (is_plain byte) (written byte h)

pub read_back : IsReadBack
read_back [] h = refl
read_back (byte ∷ bytes) h =
    byte_read byte (escape bytes) (All-head (λ b. b < 256) byte bytes h)
    ∙ ap (λ (m : List ℕ). byte ∷ m) (read_back bytes (All-tail (λ b. b < 256) byte bytes h))
