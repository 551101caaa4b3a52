-- How bytes stand in a text, or in the value of an attribute, of XML 1.0 and of HTML: all that is written is printable ASCII,
-- and each byte is read back.
use Rattle.std.specs.Prelude.{ℕ, ◌+◌, ◌-◌, ◌==◌, nat_lt, nat_le, List, [], ◌∷◌, ◌++◌, codes, decimal, Bool, true, false, not, ◌&&◌, ◌||◌, if◌then◌else◌, bytes_eq}
use Rattle.std.specs.List.{flat_map}
use Rattle.std.specs.Str.Parse.{digits_value}

-- ---- writing

-- `<`, `>`, `&`, `"` and `'`
abbrev pub is_special : ℕ → Bool
is_special byte = byte == 60 || (byte == 62 || (byte == 38 || (byte == 34 || (byte == 39))))

-- a blank or a printable character, which stands for itself
abbrev pub is_plain : ℕ → Bool
is_plain byte = nat_le 32 byte && (nat_lt byte 127 && not (is_special byte))

-- tab, newline and return, which are the only characters of XML 1.0 below 32 (XML 1.0, 2.2)
abbrev pub is_break : ℕ → Bool
is_break byte = byte == 9 || (byte == 10 || (byte == 13))

-- The character that stands for a byte: the one of its number; for a byte that is no character of XML its picture, which
-- Unicode has from U+2400 on.
abbrev pub character : ℕ → ℕ
character byte = if nat_lt byte 32 && not (is_break byte) then 9216 + byte else byte

-- what stands between the `&` and the `;` of a reference (XML 1.0, 4.1 and 4.6)
abbrev pub reference : ℕ → List ℕ
reference byte = if byte == 60 then codes "lt" else if byte == 62 then codes "gt" else if byte == 38 then codes "amp" else if byte == 34 then codes "quot" else if byte == 39 then codes "#39" else 35 ∷ decimal (character byte)

unfoldable pub escape_byte : ℕ → List ℕ
escape_byte byte = if is_plain byte then byte ∷ [] else 38 ∷ (reference byte ++ 59 ∷ [])

-- the bytes as they are written
abbrev pub escape : List ℕ → List ℕ
escape bytes = flat_map escape_byte bytes

-- ---- reading

-- the byte that a character stands for
abbrev pub byte_of : (character : ℕ) → ℕ
byte_of character = if nat_le 9216 character then character - 9216 else character

-- what a reference by a number, `#` and digits, stands for
abbrev pub numbered : List ℕ → List ℕ
numbered [] = []
numbered (mark ∷ digits) = if mark == 35 then byte_of (digits_value 10 digits) ∷ [] else []

-- what a reference stands for; nothing where it is none of these
unfoldable pub meaning : List ℕ → List ℕ
meaning name = if bytes_eq name (codes "lt") then 60 ∷ [] else if bytes_eq name (codes "gt") then 62 ∷ [] else if bytes_eq name (codes "amp") then 38 ∷ [] else if bytes_eq name (codes "quot") then 34 ∷ [] else numbered name

-- What is read behind the `&` of a reference, of which these bytes stand there, and outside of references: `&` begins a
-- reference, `;` ends it, and each other byte outside of one is itself.
abbrev pub read_from : (inside : Bool) → (name : List ℕ) → List ℕ → List ℕ
read_from inside name [] = []
read_from true name (byte ∷ bytes) = if byte == 59 then meaning name ++ read_from false [] bytes else read_from true (name ++ byte ∷ []) bytes
read_from false name (byte ∷ bytes) = if byte == 38 then read_from true [] bytes else byte ∷ read_from false [] bytes

-- the bytes that stand there
abbrev pub unescape : List ℕ → List ℕ
unescape bytes = read_from false [] bytes

-- ---- what is safe to stand between marks

-- a byte of a reference before its `;`: a letter, a digit or `#`
abbrev pub is_of_reference : ℕ → Bool
is_of_reference byte = (nat_le 97 byte && nat_lt byte 123) || ((nat_le 48 byte && nat_lt byte 58) || (byte == 35))

-- Inside of a reference and outside: each byte is printable ASCII, none is `<`, `>`, `"` or `'`, and `&` is only the first
-- byte of a reference that ends.
abbrev pub is_safe_from : (inside : Bool) → List ℕ → Bool
is_safe_from true [] = false
is_safe_from false [] = true
is_safe_from true (byte ∷ bytes) = if byte == 59 then is_safe_from false bytes else (is_of_reference byte && is_safe_from true bytes)
is_safe_from false (byte ∷ bytes) = if byte == 38 then is_safe_from true bytes else (is_plain byte && is_safe_from false bytes)

abbrev pub is_safe : List ℕ → Bool
is_safe bytes = is_safe_from false bytes
