-- Values of JSON (RFC 8259): what is written of numbers, truth values and bytes, of lists, and of what has members.
use Rattle.std.specs.Prelude.{ℕ, List, [], ◌∷◌, ◌++◌, decimal, Bool, nat_le, if◌then◌else◌}
use Rattle.std.specs.List.{flat_map}
use Rattle.std.specs.Str.{encode_utf8_all}
use Rattle.json.specs.Token.{Token, key}
use Rattle.json.specs.Json as json
use Rattle.json.specs.Json.{Json}
use Rattle.json.specs.Tree.{json_tokens}
use Rattle.json.specs.Print.{print}

-- a string of bytes, each of which is the character of its number, so any bytes can be read back
abbrev pub text : (bytes : List ℕ) → Json
text bytes = json.string (encode_utf8_all bytes)

-- 2^53 - 1, the greatest number up to which all whole ones are exact for every reader (RFC 8259, section 6)
abbrev pub most_exact : ℕ
most_exact = 9007199254740991

-- a whole number; one that not every reader has exactly is a string of its digits
unfoldable pub number : ℕ → Json
number n = if nat_le n most_exact then json.number (decimal n) else json.string (decimal n)

abbrev pub truth : Bool → Json
truth holds = json.boolean holds

-- an array of the value of each element
abbrev pub items_of : {A : Type 0} → (A → Json) → List A → json.Items
items_of value [] = json.no_items
items_of value (x ∷ xs) = json.item (value x) (items_of value xs)

unfoldable pub array_of : {A : Type 0} → (A → Json) → List A → Json
array_of value xs = json.array (items_of value xs)

-- a member of an object: its name and its value
abbrev pub Member : Type 0
Member = List ℕ × Json

-- an object of these members, in order
abbrev pub members_of : List Member → json.Members
members_of [] = json.no_members
members_of (m ∷ ms) = json.member m.0 m.1 (members_of ms)

unfoldable pub object_of : List Member → Json
object_of ms = json.object (members_of ms)

-- the text of a value on a line of its own, with no blank in it outside of strings
unfoldable pub line_of : Json → List ℕ
line_of value = print (json_tokens value) ++ 10 ∷ []

-- ---- the tokens of parts, from which a writer makes the whole

unfoldable pub member_tokens : Member → List Token
member_tokens m = key m.0 ∷ json_tokens m.1

abbrev pub all_member_tokens : List Member → List Token
all_member_tokens ms = flat_map member_tokens ms

abbrev pub all_tokens : {A : Type 0} → (A → Json) → List A → List Token
all_tokens value xs = flat_map (λ x. json_tokens (value x)) xs
