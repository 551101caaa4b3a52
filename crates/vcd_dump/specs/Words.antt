-- The words of a dump (IEEE 1800-2017, 21.7.2): runs of bytes between spaces, tabs, newlines and carriage returns.
use Rattle.std.specs.Prelude.{ℕ, List, [], ◌∷◌, length, take, ◌==◌, ◌||◌, Bool, true, false, if◌then◌else◌}
use Rattle.std.specs.List.{position_or_len}

abbrev pub is_blank : ℕ → Bool
is_blank byte = byte == 32 || byte == 9 || byte == 10 || byte == 13

-- A word: its bytes, and how many bytes of the text are left where it begins, its own among them.
pub record Word : Type 0 where
  pub left : ℕ
  pub text : List ℕ

-- the word at the front of bytes that don't begin with a blank
abbrev pub first_word : List ℕ → Word
first_word bytes = record { left = length bytes; text = take (position_or_len is_blank bytes) bytes }

-- A word begins at each byte that is no blank and stands first or behind a blank.
unfoldable pub words_from : (inside : Bool) → List ℕ → List Word
words_from inside [] = []
words_from inside (byte ∷ bytes) = if is_blank byte then words_from false bytes else if inside then words_from true bytes else first_word (byte ∷ bytes) ∷ words_from true bytes

-- the words of a text, in order
unfoldable pub words : List ℕ → List Word
words bytes = words_from false bytes
