-- Names that are made once.
use Rattle.std.specs.Prelude.{◌≡◌, ℕ, ◌++◌, List, decimal, slice_get, Option, Some}

-- each of the names has this prefix and its place as number
abbrev pub AreNumbered : (prefix : List ℕ) → List (Option (List ℕ)) → Type 0
AreNumbered prefix names = (k : ℕ) (name : List ℕ) → slice_get names k ≡ Some (Some name) → name ≡ prefix ++ decimal k
