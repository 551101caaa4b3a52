-- The products of a cross, and which of them its bins have (IEEE 1800-2017, 19.6). A product is a coverage bin of each
-- crossed point, by its number among that point's coverage bins.
use Rattle.std.specs.Prelude.{ℕ, ◌<◌, ◌==◌, nat_eq, List, [], ◌∷◌, length, map, slice_get, Option, Some, None, Bool, true, false, not, ◌&&◌}
use Rattle.std.specs.List.{flat_map, list_all, range_with_len}
use Rattle.std.specs.Cmp.Lexicographic.{pointwise}
use Rattle.cross_select.specs.declared.select.Select.{Select}
use Rattle.cross_select.specs.declared.select.Select.TheOpen.{Select-F, Bins, Not, And, Or}
use Rattle.cross_select.specs.declared.select.Select.TheFolds.{fold-Select}
use Rattle.cross_select.specs.Selections.{is_selected}
use Rattle.design_data.specs.declared.infos.BinInfo.{BinInfo}
use Rattle.design_data.specs.declared.infos.BinKind.{BinKind}
use Rattle.design_data.specs.declared.infos.BinKind.TheVariants.{CvgBin, IllegalBin, IgnoreBin}
use Rattle.design_data.specs.declared.infos.BinRule.{BinRule}
use Rattle.design_data.specs.declared.infos.BinRule.TheVariants.{Values, Patterns, Trans, Default, DefaultValues, DefaultSequence, Picked, Product}

-- a bin number for each point, below the number of its coverage bins
abbrev pub IsProduct : (sizes product : List ℕ) → Type 0
IsProduct [] [] = Unit {0}
IsProduct [] (bin ∷ product) = ⊥
IsProduct (size ∷ sizes) [] = ⊥
IsProduct (size ∷ sizes) (bin ∷ product) = (bin < size) × IsProduct sizes product

-- all products in order, the bin of the last point running fastest
abbrev pub products : (sizes : List ℕ) → List (List ℕ)
products [] = [] ∷ []
products (size ∷ sizes) = flat_map (λ bin. map (λ rest. bin ∷ rest) (products sizes)) (range_with_len 0 size)

-- ---- selections

abbrev pub is_size : Option ℕ → ℕ → Bool
is_size None n = false
is_size (Some size) n = size == n

-- one node of a selection, its parts being decided
abbrev pub fits_node : (sizes : List ℕ) → Select-F Bool → Bool
fits_node sizes (Bins axis chosen) = is_size (slice_get sizes axis) (length chosen)
fits_node sizes (Not inner) = inner
fits_node sizes (And left right) = left && right
fits_node sizes (Or left right) = left && right

-- the selection says for each coverage bin of a crossed point whether it is chosen
abbrev pub fits : (sizes : List ℕ) → Select → Bool
fits sizes select = fold-Select Bool (fits_node sizes) select

-- ---- the products of a bin

-- the bin is a declared one, and its selection selects the product (19.6.1)
abbrev pub picks : (product : List ℕ) → BinRule → Bool
picks product (Values set) = false
picks product (Patterns patterns) = false
picks product (Trans seqs) = false
picks product Default = false
picks product (DefaultValues set) = false
picks product DefaultSequence = false
picks product (Picked select) = is_selected select product
picks product (Product members) = false

-- Whether what a bin of the first kind selects leaves a bin of the second kind: what is illegal leaves all that isn't
-- illegal itself (19.6.3), and what is ignored leaves the coverage bins (19.6.2).
abbrev pub takes_from : BinKind → BinKind → Bool
takes_from IllegalBin IllegalBin = false
takes_from IllegalBin other = true
takes_from IgnoreBin CvgBin = true
takes_from IgnoreBin other = false
takes_from other kind = false

-- the bin leaves the product to the bins of a kind
abbrev pub leaves : BinInfo → BinKind → (product : List ℕ) → Bool
leaves bin kind product = not (takes_from bin.kind kind && picks product bin.rule)

-- each bin of the cross leaves the product to the bins of a kind
abbrev pub is_left : List BinInfo → BinKind → (product : List ℕ) → Bool
is_left bins kind product = list_all (λ bin. leaves bin kind product) bins

-- the product is one of a bin of this kind and rule: a declared bin has those that it selects and that are left to it,
-- an automatic one has its own
abbrev pub has : List BinInfo → BinKind → BinRule → (product : List ℕ) → Bool
has bins kind (Values set) product = false
has bins kind (Patterns patterns) product = false
has bins kind (Trans seqs) product = false
has bins kind Default product = false
has bins kind (DefaultValues set) product = false
has bins kind DefaultSequence product = false
has bins kind (Picked select) product = is_selected select product && is_left bins kind product
has bins kind (Product members) product = pointwise nat_eq product members
