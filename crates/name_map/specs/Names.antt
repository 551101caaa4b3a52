-- Names with what they stand for, as pairs of which the first of a name counts.
use Rattle.std.specs.Prelude.{ℕ, List, [], ◌∷◌, ◌++◌, Option, is_some, nat_eq, if◌then◌else◌}
use Rattle.std.specs.Cmp.Lexicographic.{pointwise}
use Rattle.std.specs.Map.{lookup}

-- pairs of a name and what it stands for
abbrev pub Pairs : Type 0 → Type 0
Pairs M = List (List ℕ × M)

-- what the first pair of the name says that it stands for
unfoldable pub meaning_of : {M : Type 0} → Pairs M → (name : List ℕ) → Option M
meaning_of pairs name = lookup (pointwise nat_eq name) pairs

-- the pairs with one name more, unless it is there
abbrev pub with_name : {M : Type 0} → Pairs M → (name : List ℕ) → M → Pairs M
with_name pairs name meaning = if is_some (meaning_of pairs name) then pairs else pairs ++ (name, meaning) ∷ []

-- the pairs with each of further names in turn, unless it is there
abbrev pub with_names : {M : Type 0} → Pairs M → (more : Pairs M) → Pairs M
with_names pairs [] = pairs
with_names pairs (pair ∷ more) = with_names (with_name pairs pair.0 pair.1) more
