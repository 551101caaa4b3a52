-- What is written is read back.
use Rattle.std.proofs.Common.{◌≡◌, ℕ, ◌<◌, true, List, [], ◌∷◌, All, refl, arith}
use Rattle.std.specs.Str.{all_scalars}
use Rattle.std.proofs.lemmas.Str.{chars-encodes}
use Rattle.std.proofs.lemmas.List.Elements.{All-head, All-tail}
use Rattle.json.proofs.Printed.Trees.{document-print}
use Rattle.json_text.specs.Laws.{IsToldWhole, IsReadBack}

bytes_are_characters : (bytes : List ℕ) → All (λ byte. byte < 256) bytes → all_scalars bytes ≡ true
bytes_are_characters [] h = refl
bytes_are_characters (byte ∷ bytes) h =
    let first : byte < 256 = All-head (λ b. b < 256) byte bytes h in
    let rest = bytes_are_characters bytes (All-tail (λ b. b < 256) byte bytes h) in
    grind (arith, first, rest)

pub told_whole : IsToldWhole
told_whole bytes h = chars-encodes bytes (bytes_are_characters bytes h)

pub read_back : IsReadBack
read_back value within = document-print value within.numbers within.shallow
