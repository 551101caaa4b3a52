-- How a list of numbers is spread over so many bins (IEEE 1800-2017, 19.5).
use Rattle.std.specs.Prelude.{ℕ, zero, suc, ◌+◌, ◌*◌, ◌/◌, ◌==◌, List, [], ◌∷◌, ◌++◌, length, map, take, drop, if◌then◌else◌}

-- the places of so many things, from 0 on
abbrev pub places : ℕ → List ℕ
places zero = []
places (suc n) = places n ++ n ∷ []

-- how many elements each part but the last one has: the number of elements divided by that of the parts, rounded down
abbrev pub share : {X : Type 0} → List X → ℕ → ℕ
share elements n = length elements / n

-- Part j of n parts, from 0 on: the elements at places j * share to j * share + share - 1, and for the last part all
-- from j * share on. Where there are fewer elements than parts, it is the one at place j, if there is one.
unfoldable pub part : {X : Type 0} → List X → ℕ → ℕ → List X
part elements n j = if share elements n == 0 then take 1 (drop j elements) else (if j + 1 == n then drop (j * share elements n) elements else take (share elements n) (drop (j * share elements n) elements))

-- the n parts of a list, in order
unfoldable pub parts : {X : Type 0} → List X → ℕ → List (List X)
parts elements n = map (part elements n) (places n)
