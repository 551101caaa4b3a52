-- Files that grow by whole parts, each behind a gate: a byte that is 1 where the part counts.
use Rattle.std.specs.Prelude.{◌≡◌, ◌≢◌, ◌⊎◌, ℕ, List, ◌∷◌, ◌++◌}

-- the file is these bytes, then a gate that isn't open, with anything behind
pub record Ends (front file : List ℕ) : Type 0 where
  pub gate : ℕ
  pub rest : List ℕ
  pub is : file ≡ front ++ gate ∷ rest
  pub shut : gate ≢ 1

-- a part stands whole behind the gate that isn't open, and a shut gate behind the part
pub record IsStaged (front part file : List ℕ) : Type 0 where
  pub gate : ℕ
  pub rest : List ℕ
  pub is : file ≡ front ++ gate ∷ (part ++ 0 ∷ rest)
  pub shut : gate ≢ 1

-- the file ends before the part or behind it
abbrev pub EndsEither : (front part file : List ℕ) → Type 0
EndsEither front part file = Ends front file ⊎ Ends (front ++ 1 ∷ part) file
