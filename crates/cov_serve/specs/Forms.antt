-- The forms of the words of `covd serve`.
use Rattle.std.specs.Prelude.{◌≡◌, ◌↔◌, ℕ, ◌+◌, List, [], ◌∷◌, ◌++◌, Option, Some, None, codes}
use Rattle.cov_serve.specs.declared.words.ServeWords.{ServeWords}
use Rattle.cov_serve.specs.Seats.{seats_of}
use Rattle.cov_serve.specs.Words.{served_by}

-- a flag and its value, or no words
abbrev pub flag_with : (flag : List ℕ) → Option (List ℕ) → List (List ℕ)
flag_with flag None = []
flag_with flag (Some value) = flag ∷ value ∷ []

-- how many words these are
abbrev pub words_of : Option (List ℕ) → ℕ
words_of None = 0
words_of (Some value) = 2

-- the place of a flag's value, where the flag stands there
abbrev pub place_of : (at : ℕ) → Option (List ℕ) → Option ℕ
place_of at None = None
place_of at (Some value) = Some (at + 1)

-- the number of seats that is said, or 16
abbrev pub IsSeats : Option (List ℕ) → ℕ → Type 0
IsSeats None n = n ≡ 16
IsSeats (Some word) n = seats_of word ≡ Some n

-- The words are `serve DESIGN --listen ADDR`, and then three flags with their values, of which each may be left out.
pub record IsServe (words : List (List ℕ)) (w : ServeWords) : Type 0 where
  pub design : List ℕ
  pub address : List ℕ
  pub seats : Option (List ℕ)
  pub journal : Option (List ℕ)
  pub readers : Option (List ℕ)
  pub form : words ≡ codes "serve" ∷ design ∷ codes "--listen" ∷ address ∷ flag_with (codes "--seats") seats ++ (flag_with (codes "--journal") journal ++ flag_with (codes "--readers") readers)
  pub design_at : w.design ≡ 1
  pub listen_at : w.listen ≡ 3
  pub number : IsSeats seats w.seats
  pub journal_at : w.journal ≡ place_of (4 + words_of seats) journal
  pub readers_at : w.readers ≡ place_of (4 + words_of seats + words_of journal) readers

-- what the words say is what their form says
abbrev pub SaysItsForm : Type 0
SaysItsForm = (words : List (List ℕ)) (w : ServeWords) → (served_by words ≡ Some w) ↔ IsServe words w
