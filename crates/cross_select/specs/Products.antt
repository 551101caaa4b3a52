-- How many products points with so many bins each have (IEEE 1800-2017, 19.6).
use Rattle.std.specs.Prelude.{ℕ, ◌*◌, List, [], ◌∷◌, Option, Some, None, nat_lt, if◌then◌else◌}
use Rattle.cov_ground.specs.Limits.{most_products}

-- the product of the sizes, as a number of any size; 1 where there are none
abbrev pub product_of : List ℕ → ℕ
product_of [] = 1
product_of (size ∷ sizes) = size * product_of sizes

-- how many products there are, if they are at most the most of a cross
abbrev pub product_count : List ℕ → Option ℕ
product_count sizes = if nat_lt most_products (product_of sizes) then None else Some (product_of sizes)
