-- The characters of bytes, one byte more at a time.
use Rattle.std.proofs.Common.{◌≡◌, ℕ, ◌+◌, ◌<◌, List, [], ◌∷◌, ◌++◌, length, take, get_or, sym, ◌∙◌, ap, append-nil}
use Rattle.std.specs.Char.{encode_utf8}
use Rattle.std.specs.Str.{encode_utf8_all}
use Rattle.std.proofs.lemmas.Str.{encodes-append}
use Rattle.std.proofs.lemmas.List.{take_more}

one_alone : (byte : ℕ) → encode_utf8_all (byte ∷ []) ≡ encode_utf8 byte
unfolding encode_utf8
one_alone byte = append-nil (encode_utf8 byte)

pub one_more : (bytes : List ℕ) (i d : ℕ) → i < length bytes → encode_utf8_all (take i bytes) ++ encode_utf8 (get_or bytes i d) ≡ encode_utf8_all (take (i + 1) bytes)
one_more bytes i d h =
    ap (λ (text : List ℕ). encode_utf8_all (take i bytes) ++ text) (sym (one_alone (get_or bytes i d)))
    ∙ sym (encodes-append (take i bytes) (get_or bytes i d ∷ [])) ∙ ap encode_utf8_all (sym (take_more bytes i d h))
