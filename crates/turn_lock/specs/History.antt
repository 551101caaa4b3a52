-- Histories, which are lists of entries, and whose entry is whose.
use Rattle.std.specs.Prelude.{◌≡◌, ◌≢◌, ◌==◌, ◌⊎◌, ℕ, suc, nat_lt, if◌then◌else◌, List, [], ◌∷◌, ◌++◌, length, All}

module _ {E : Type 0} where
  -- the longer of two histories
  abbrev pub longer : List E → List E → List E
  longer xs ys = if nat_lt (length xs) (length ys) then ys else xs

module _ {E : Type 0} (number : E → ℕ) where
  -- none of the entries has this number
  abbrev pub NoneBy : ℕ → List E → Type 0
  NoneBy n es = All (λ e. number e ≢ n) es

  -- these entries, or one more, which has this number
  abbrev pub AtMostOneMore : ℕ → List E → List E → Type 0
  AtMostOneMore n xs ys = (ys ≡ xs) ⊎ ((e : E) × (number e ≡ n) × (ys ≡ xs ++ e ∷ []))

  -- the entries with this number, each with its place, where the first stands at place k
  abbrev pub own_from : ℕ → ℕ → List E → List (ℕ × E)
  own_from n k [] = []
  own_from n k (e ∷ es) = if number e == n then (k, e) ∷ own_from n (suc k) es else own_from n (suc k) es
