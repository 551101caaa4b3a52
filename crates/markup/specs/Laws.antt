-- What holds of texts that are written.
use Rattle.std.specs.Prelude.{◌≡◌, ℕ, ◌<◌, ◌==◌, List, filter, All, Bool, true, ◌||◌}
use Rattle.markup.specs.Escaping.{escape, unescape, is_safe}
use Rattle.markup.specs.Trees.{Markup, markup_text, silenced}

-- what is written of bytes is read as these bytes
abbrev pub IsReadBack : Type 0
IsReadBack = (bytes : List ℕ) → All (λ byte. byte < 256) bytes → unescape (escape bytes) ≡ bytes

-- What is written of bytes is printable ASCII; none of the five bytes of markup stands in it but `&` as the first of a
-- reference.
abbrev pub IsSafe : Type 0
IsSafe = (bytes : List ℕ) → All (λ byte. byte < 256) bytes → is_safe (escape bytes) ≡ true

-- `<`, `>`, `"` or `'`
abbrev pub is_mark : ℕ → Bool
is_mark byte = byte == 60 || (byte == 62 || (byte == 34 || (byte == 39)))

-- The marks of a tree's text are those of the tree with all values and texts empty, whatever they are: nothing that is said
-- makes a tag, ends one, or ends a value.
abbrev pub IsMarkedAlike : Type 0
IsMarkedAlike = (tree : Markup) → filter is_mark (markup_text tree) ≡ filter is_mark (markup_text (silenced tree))
