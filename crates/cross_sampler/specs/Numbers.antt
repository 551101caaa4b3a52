-- Numbers of products: the bins of the last point run fastest.
use Rattle.std.specs.Prelude.{◌≡◌, ℕ, ◌+◌, ◌*◌, ◌/◌, ◌%◌, ◌≤◌, List, [], ◌∷◌, map, filter, nat_lt, slice_get, Option, Some, None, true}
use Rattle.std.specs.Global.{Vec}
use Rattle.std.specs.List.{flat_map, All}
use Rattle.cross_select.specs.Products.{product_of}
use Rattle.cross_sampler.specs.Once.{is_among}

-- the number of a product behind a base
abbrev pub number_of : (base : ℕ) (sizes product : List ℕ) → ℕ
number_of base [] product = base
number_of base (size ∷ sizes) [] = base
number_of base (size ∷ sizes) (bin ∷ product) = number_of (base * size + bin) sizes product

-- for each point how many products there are of the points behind it
abbrev pub weights_of : (sizes : List ℕ) → List ℕ
weights_of [] = []
weights_of (size ∷ sizes) = product_of sizes ∷ weights_of sizes

abbrev pub product_by : (weights : List ℕ) (number : ℕ) → List ℕ
product_by [] number = []
product_by (weight ∷ weights) number = number / weight ∷ product_by weights (number % weight)

-- the product of a number
abbrev pub product_at : (sizes : List ℕ) (number : ℕ) → List ℕ
product_at sizes number = product_by (weights_of sizes) number

-- the bins that the point has
abbrev pub below : (size : ℕ) (hit : List ℕ) → List ℕ
below size hit = filter (λ bin. nat_lt bin size) hit

-- the numbers of products, each with each of the bins of one more point
abbrev pub extended : (size : ℕ) (hit numbers : List ℕ) → List ℕ
extended size hit numbers = flat_map (λ n. map (λ bin. n * size + bin) (below size hit)) numbers

-- the numbers of all products made of the bins that are hit of each point, behind these
abbrev pub numbers_of : (numbers sizes : List ℕ) (hits : List (List ℕ)) → List ℕ
numbers_of numbers [] hits = numbers
numbers_of numbers (size ∷ sizes) [] = numbers
numbers_of numbers (size ∷ sizes) (hit ∷ hits) = numbers_of (extended size hit numbers) sizes hits

abbrev pub items_of : Option (Vec ℕ) → List ℕ
items_of None = []
items_of (Some row) = row.items

-- the bins that are hit of the point at an index
abbrev pub row_at : List (Vec ℕ) → (axis : ℕ) → List ℕ
row_at rows axis = items_of (slice_get rows axis)

-- the bins that are hit of the points at these indexes
abbrev pub hits_of : List (Vec ℕ) → (axes : List ℕ) → List (List ℕ)
hits_of rows axes = map (row_at rows) axes

-- the numbers are those of products of points of which so many products are still to come
abbrev pub AllFit : (most : ℕ) (sizes numbers : List ℕ) → Type 0
AllFit most sizes numbers = All (λ n. (n + 1) * product_of sizes ≤ most) numbers

-- one of the bins that are hit of each point
abbrev pub IsMade : (hits : List (List ℕ)) (product : List ℕ) → Type 0
IsMade [] [] = Unit {0}
IsMade [] (bin ∷ product) = ⊥
IsMade (hit ∷ hits) [] = ⊥
IsMade (hit ∷ hits) (bin ∷ product) = (is_among bin hit ≡ true) × IsMade hits product
