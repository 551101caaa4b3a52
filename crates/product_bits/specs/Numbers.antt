-- Products by their numbers: the places at which they stand among all products of a cross (IEEE 1800-2017, 19.6).
use Rattle.std.specs.Prelude.{ℕ, ◌/◌, ◌%◌, nat_le, List, [], ◌∷◌, length, Option, Some, None, if◌then◌else◌}
use Rattle.cross_select.specs.Products.{product_of}

-- The product of a number: the bin of the last point runs fastest. Past the last number they come again from the first.
abbrev pub product_at : (sizes : List ℕ) → ℕ → List ℕ
product_at [] n = []
product_at (size ∷ sizes) n = n / product_of sizes % size ∷ product_at sizes n

-- a list, if it has so many elements at most
abbrev pub at_most : {X : Type 0} → ℕ → List X → Option (List X)
at_most most xs = if nat_le (length xs) most then Some xs else None
