-- Where a byte of a text stands, as editors say it: lines and columns count from 1, a line ends before its newline.
use Rattle.std.specs.Prelude.{◌≡◌, ◌≢◌, ◌⊎◌, ℕ, ◌+◌, ◌<◌, ◌≤◌, ◌==◌, List, length, take, count_by, slice_get, Some, Bool}

abbrev pub newline : ℕ
newline = 10

abbrev pub is_newline : ℕ → Bool
is_newline byte = byte == newline

-- a line has this byte first: it is the text's first byte, or a newline stands before it
abbrev pub BeginsLine : List ℕ → (start : ℕ) → Type 0
BeginsLine text start = (start ≡ 0) ⊎ ((before : ℕ) × (start ≡ before + 1) × (slice_get text before ≡ Some newline))

-- no newline stands from the one place up to the other
abbrev pub IsOneLine : List ℕ → (from to : ℕ) → Type 0
IsOneLine text from to = (i : ℕ) → from ≤ i → i < to → slice_get text i ≢ Some newline

-- the line of this number, which is one more than the newlines before the place, begins at `start`
pub record IsLine (text : List ℕ) (at : ℕ) (line start : ℕ) : Type 0 where
  pub number : line ≡ 1 + count_by is_newline (take at text)
  pub before : start ≤ at
  pub begins : BeginsLine text start
  pub whole : IsOneLine text start at

-- the line of a place ends there: before a newline, or with the text
pub record IsLineEnd (text : List ℕ) (at end : ℕ) : Type 0 where
  pub behind : at ≤ end
  pub within : end ≤ length text
  pub whole : IsOneLine text at end
  pub ends : (end ≡ length text) ⊎ (slice_get text end ≡ Some newline)
