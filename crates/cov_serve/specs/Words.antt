-- What the words of `covd serve` say, word by word.
use Rattle.std.specs.Prelude.{ℕ, ◌+◌, ◌<◌, List, [], ◌∷◌, Option, Some, None, IfSome, codes, option_map, if◌then◌else◌}
use Rattle.std.specs.Str.{bytes_eq}
use Rattle.cov_serve.specs.declared.words.ServeWords.{ServeWords}
use Rattle.cov_serve.specs.Seats.{seats_of}

-- the value behind a flag and the words behind that, where the words begin with the flag
abbrev pub behind : (flag : List ℕ) → List (List ℕ) → Option (List ℕ × List (List ℕ))
behind flag (first ∷ value ∷ rest) = if bytes_eq first flag then Some (value, rest) else None
behind flag other = None

-- the readers' address is the last word
abbrev pub readers_behind : (at : ℕ) → Option (List ℕ × List (List ℕ)) → Option (Option ℕ)
readers_behind at None = None
readers_behind at (Some (value, [])) = Some (Some (at + 1))
readers_behind at (Some (value, w ∷ ws)) = None

-- the place of the readers' address in words that stand from a place on
abbrev pub readers_of : (at : ℕ) → List (List ℕ) → Option (Option ℕ)
readers_of at [] = Some None
readers_of at (w ∷ ws) = readers_behind at (behind (codes "--readers") (w ∷ ws))

abbrev pub journal_behind : (at : ℕ) → List (List ℕ) → Option (List ℕ × List (List ℕ)) → Option (Option ℕ × Option ℕ)
journal_behind at words None = option_map (λ readers. (None, readers)) (readers_of at words)
journal_behind at words (Some p) = option_map (λ readers. (Some (at + 1), readers)) (readers_of (at + 2) p.1)

-- the places of the journal's name and of the readers' address
abbrev pub journal_of : (at : ℕ) → List (List ℕ) → Option (Option ℕ × Option ℕ)
journal_of at words = journal_behind at words (behind (codes "--journal") words)

-- the design and the address stand at fixed places
abbrev pub placed : (seats : ℕ) → Option ℕ × Option ℕ → ServeWords
placed seats p = record { design = 1; listen = 3; seats = seats; journal = p.0; readers = p.1 }

abbrev pub seated : Option ℕ → List (List ℕ) → Option ServeWords
seated None rest = None
seated (Some n) rest = option_map (placed n) (journal_of 6 rest)

abbrev pub flags_behind : List (List ℕ) → Option (List ℕ × List (List ℕ)) → Option ServeWords
flags_behind words None = option_map (placed 16) (journal_of 4 words)
flags_behind words (Some p) = seated (seats_of p.0) p.1

-- the words behind the address
abbrev pub flags_of : List (List ℕ) → Option ServeWords
flags_of words = flags_behind words (behind (codes "--seats") words)

abbrev pub listened : Option (List ℕ × List (List ℕ)) → Option ServeWords
listened None = None
listened (Some p) = flags_of p.1

abbrev pub designed : Option (List ℕ × List (List ℕ)) → Option ServeWords
designed None = None
designed (Some p) = listened (behind (codes "--listen") p.1)

-- all words
abbrev pub served_by : List (List ℕ) → Option ServeWords
served_by words = designed (behind (codes "serve") words)

-- the places are those of words
pub record IsWithin (count : ℕ) (w : ServeWords) : Type 0 where
  pub design : w.design < count
  pub listen : w.listen < count
  pub journal : IfSome w.journal (λ at. at < count)
  pub readers : IfSome w.readers (λ at. at < count)
