-- Which words are the server's, and which of them it is built for.
use Rattle.std.specs.Prelude.{ℕ, Bool, false, ◌||◌, List, [], ◌∷◌, Option, Some, None, codes, if◌then◌else◌}
use Rattle.std.specs.Option.{is_some}
use Rattle.std.specs.Str.{bytes_eq}
use Rattle.cov_serve.specs.declared.words.ServeWords.{ServeWords}
use Rattle.cov_serve.specs.Words.{served_by}

-- the first word is `serve`
abbrev pub is_serve : List (List ℕ) → Bool
is_serve [] = false
is_serve (first ∷ rest) = bytes_eq first (codes "serve")

-- they ask for a journal, or for readers
abbrev pub asks_further : Option ServeWords → Bool
asks_further None = false
asks_further (Some said) = is_some said.journal || is_some said.readers

-- the words, or none where they ask for what isn't built
abbrev pub built : List (List ℕ) → List (List ℕ)
built words = if asks_further (served_by words) then [] else words
