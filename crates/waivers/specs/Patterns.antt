-- Patterns of paths. A pattern is bytes: `*` stands for any bytes of a name, `**` for any bytes, and each other byte
-- for itself.
use Rattle.std.specs.Prelude.{◌≡◌, ◌≢◌, ℕ, List, [], ◌∷◌, ◌++◌, ◌==◌, ◌&&◌, ◌||◌, not, Bool, true, false, if◌then◌else◌}
use Rattle.std.specs.List.{AllByRecursion}

abbrev pub star : ℕ
star = 42

-- what stands between the names of a path
abbrev pub slash : ℕ
slash = 47

pub data Part : Type 0 where
  Byte : ℕ → Part
  WithinName : Part
  Anything : Part

-- The parts of a pattern, from its front. Of three stars in a row the first two are one part.
unfoldable pub parts : List ℕ → List Part
parts [] = []
parts (byte ∷ []) = (if byte == star then WithinName else Byte byte) ∷ []
parts (byte ∷ next ∷ bytes) =
    if byte == star
    then (if next == star then Anything ∷ parts bytes else WithinName ∷ parts (next ∷ bytes))
    else Byte byte ∷ parts (next ∷ bytes)

-- none of the bytes ends a name
abbrev pub IsWithinName : List ℕ → Type 0
IsWithinName bytes = AllByRecursion (λ byte. byte ≢ slash) bytes

-- a path is what these parts stand for, one behind the other
abbrev pub Fits : List Part → List ℕ → Type 0
Fits [] path = path ≡ []
Fits (Byte byte ∷ more) path = (rest : List ℕ) × (path ≡ byte ∷ rest) × Fits more rest
Fits (WithinName ∷ more) path = (run rest : List ℕ) × (path ≡ run ++ rest) × IsWithinName run × Fits more rest
Fits (Anything ∷ more) path = (run rest : List ℕ) × (path ≡ run ++ rest) × Fits more rest

-- a pattern matches a path
abbrev pub IsMatch : (pattern path : List ℕ) → Type 0
IsMatch pattern path = Fits (parts pattern) path

-- ---- the same by truth values (`Pattern::matches` says that they agree)

abbrev pub is_nothing : List ℕ → Bool
is_nothing [] = true
is_nothing (byte ∷ bytes) = false

-- the byte, and behind it what passes
abbrev pub byte_then : ℕ → (List ℕ → Bool) → List ℕ → Bool
byte_then byte test [] = false
byte_then byte test (first ∷ path) = (byte == first) && test path

-- bytes that all pass one test, and behind them what passes the other
abbrev pub run_then : (may : ℕ → Bool) → (List ℕ → Bool) → List ℕ → Bool
run_then may test [] = test []
run_then may test (first ∷ path) = test (first ∷ path) || (may first && run_then may test path)

abbrev pub is_in_name : ℕ → Bool
is_in_name byte = not (byte == slash)

abbrev pub is_any : ℕ → Bool
is_any byte = true

abbrev pub fits : List Part → List ℕ → Bool
fits [] path = is_nothing path
fits (Byte byte ∷ more) path = byte_then byte (fits more) path
fits (WithinName ∷ more) path = run_then is_in_name (fits more) path
fits (Anything ∷ more) path = run_then is_any (fits more) path

-- whether a pattern matches a path
abbrev pub is_match : (pattern path : List ℕ) → Bool
is_match pattern path = fits (parts pattern) path
