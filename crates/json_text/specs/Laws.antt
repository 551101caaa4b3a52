-- What holds of values that are written, by the definition of a JSON text (`document`).
use Rattle.std.specs.Prelude.{◌≡◌, ◌<◌, ◌≤◌, ℕ, List, All, Some}
use Rattle.std.specs.Str.{chars}
use Rattle.json.specs.Json.{Json, document, max_depth}
use Rattle.json.specs.Print.{print}
use Rattle.json.specs.Tree.{json_tokens, depth, HasNumbers}
use Rattle.std.specs.Str.{encode_utf8_all}

-- the characters of a string are the bytes that it was made of
abbrev pub IsToldWhole : Type 0
IsToldWhole = (bytes : List ℕ) → All (λ byte. byte < 256) bytes → chars (encode_utf8_all bytes) ≡ bytes

-- A value in which no more than so many arrays and objects stand in one another, and each number is one.
pub record IsWithin (most : ℕ) (value : Json) : Type 0 where
  pub numbers : HasNumbers value
  pub shallow : depth value ≤ most

-- what is written of such a value is a JSON text, and says this value
abbrev pub IsReadBack : Type 0
IsReadBack = (value : Json) → IsWithin max_depth value → document (print (json_tokens value)) ≡ Some value
