-- Reading fields from the front of bytes, with the first fault.
--
-- The bytes are read from left to right. A field that runs past the end, or is out of its range, is at fault at its first byte; in a
-- text that doesn't run past the end it is the first byte that is out of its range. Behind the last field the bytes end; else the first
-- byte too many is at fault. A fault is told by how many bytes are left at its place, its own among them.
use Rattle.std.specs.Prelude.{ℕ, suc, ◌-◌, List, [], ◌∷◌, length, take, drop, Option, Some, None, Result, Ok, Err, Bool, nat_lt, nat_le, ◌==◌, ◌||◌, if◌then◌else◌}
use mathlib.Core.Bool.{◌&&◌}
use Rattle.std.specs.List.{position}
use Rattle.std.specs.Int.{Width, w8, byte_len, from_be_bytes}
use Rattle.design_data.specs.declared.infos.BinKind.{BinKind}
use Rattle.design_data.specs.declared.infos.BinKind.TheVariants.{CvgBin, IllegalBin, IgnoreBin, DefaultBin}
use Rattle.record_codec.specs.Limits.{longest_id}

infixl 10 ◌>>=◌
abbrev pub ◌>>=◌ : {A B : Type 0} → Result A ℕ → (A → Result B ℕ) → Result B ℕ
(Ok x) >>= f = f x
(Err left) >>= f = Err left

-- A field is a value and the bytes behind it.
abbrev pub Reader : Type 0 → Type 0
Reader A = List ℕ → Result (A × List ℕ) ℕ

-- What takes all of the bytes.
abbrev pub Form : Type 0 → Type 0
Form A = List ℕ → Result A ℕ

-- ---- fields

abbrev pub number_at : Width → Reader ℕ
number_at w bytes = if nat_lt (length bytes) (byte_len w) then Err (length bytes) else Ok (from_be_bytes w (take (byte_len w) bytes), drop (byte_len w) bytes)

-- a number from least to most, both included
unfoldable pub number_within : Width → ℕ → ℕ → Reader ℕ
number_within w least most bytes = do
  n ← number_at w bytes
  if nat_le least n.0 && nat_le n.0 most then Ok n else Err (length bytes)

abbrev pub digest_at : Reader (List ℕ)
digest_at bytes = if nat_lt (length bytes) 32 then Err (length bytes) else Ok (take 32 bytes, drop 32 bytes)

-- no byte of a text whose bytes are from low on
abbrev pub is_bad : ℕ → ℕ → Bool
is_bad low byte = nat_lt byte low || nat_le 127 byte

abbrev pub unless_bad : {A : Type 0} → Option ℕ → List ℕ → A → Result A ℕ
unless_bad None bytes x = Ok x
unless_bad (Some bad) bytes x = Err (length bytes - bad)

-- so many bytes from low on
unfoldable pub chars_at : ℕ → ℕ → Reader (List ℕ)
chars_at low count bytes = if nat_lt (length bytes) count then Err (length bytes) else unless_bad (position (is_bad low) (take count bytes)) bytes (take count bytes, drop count bytes)

-- The length, from least on, is a field, and the text another.
unfoldable pub text_at : ℕ → ℕ → Reader (List ℕ)
text_at least low bytes = do
  n ← number_within w8 least longest_id bytes
  chars_at low n.0 n.1

unfoldable pub flag_at : Reader Bool
flag_at bytes = do
  n ← number_within w8 0 1 bytes
  Ok (n.0 == 1, n.1)

abbrev pub kind_of : ℕ → BinKind
kind_of n = if n == 0 then CvgBin else (if n == 1 then IllegalBin else (if n == 2 then IgnoreBin else DefaultBin))

unfoldable pub kind_at : Reader BinKind
kind_at bytes = do
  n ← number_within w8 0 3 bytes
  Ok (kind_of n.0, n.1)

-- one field and another
abbrev pub pair : {A B : Type 0} → Reader A → Reader B → Reader (A × B)
pair first second bytes = do
  x ← first bytes
  y ← second x.1
  Ok ((x.0, y.0), y.1)

-- ---- all of the bytes

abbrev pub ended : {A : Type 0} → A → List ℕ → Result A ℕ
ended x rest = if length rest == 0 then Ok x else Err (length rest)

abbrev pub nothing : Form (Unit {0})
nothing bytes = ended tt bytes

-- a field, and nothing behind it
abbrev pub only : {A : Type 0} → Reader A → Form A
only read bytes = do
  x ← read bytes
  ended x.0 x.1

-- a field, and what takes all behind it
abbrev pub before : {A B : Type 0} → Reader A → Form B → Form (A × B)
before read form bytes = do
  x ← read bytes
  y ← form x.1
  Ok (x.0, y)

abbrev pub any_bytes : Form (List ℕ)
any_bytes bytes = Ok bytes

abbrev pub path : Form (List ℕ)
path bytes = unless_bad (position (is_bad 32) bytes) bytes bytes

-- what is made of all of the bytes
abbrev pub made : {A B : Type 0} → (A → B) → Form A → Form B
made make form bytes = do
  x ← form bytes
  Ok (make x)

-- ---- tables of tags

abbrev pub Table : Type 0 → Type 0
Table A = List (ℕ × Form A)

-- what stands behind this tag
abbrev pub found : {A : Type 0} → ℕ → Table A → Form A → Form A
found tag [] other = other
found tag (row ∷ more) other = if tag == row.0 then row.1 else found tag more other

-- The tag is no message's: it is at fault, one byte before these.
abbrev pub unknown : {A : Type 0} → Form A
unknown rest = Err (suc (length rest))
