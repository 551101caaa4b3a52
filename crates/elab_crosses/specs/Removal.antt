-- What removal leaves of the declared bins of a cross, and its automatic bins (IEEE 1800-2017, 19.6, 19.6.2 and 19.6.3).
use Rattle.std.specs.Prelude.{ℕ, ◌+◌, nat_le, List, [], ◌∷◌, ◌++◌, length, map, slice_get, slice_index_or, Bool, ◌&&◌, Option, Some, None, Result, Ok, if◌then◌else◌}
use Rattle.std.specs.List.{list_any, flat_map}
use Rattle.cov_ground.specs.Limits.{most_bins}
use Rattle.cov_tree.specs.declared.groups.CrossBins.{CrossBins}
use Rattle.const_eval.specs.Scopes.{Levels}
use Rattle.design_data.specs.declared.infos.ItemInfo.{ItemInfo}
use Rattle.design_data.specs.declared.infos.BinInfo.{BinInfo}
use Rattle.design_data.specs.declared.infos.BinKind.{BinKind}
use Rattle.design_data.specs.declared.infos.BinKind.TheVariants.{CvgBin}
use Rattle.design_data.specs.declared.infos.BinRule.TheVariants.{Product}
use Rattle.design_data.specs.Bins.{is_coverage}
use Rattle.design_data.specs.Crosses.{products, picks, takes_from, is_left}
use Rattle.design_data.specs.Laws.{automatic_products}
use Rattle.elab_base.specs.declared.fault.ElabKind.TheVariants as kind
use Rattle.elab_base.specs.Gives.{Refusal, ◌>>=◌, needs}
use Rattle.elab_values.specs.declared.made.Made.{Made}
use Rattle.elab_crosses.specs.Selections.{Crossed}
use Rattle.elab_crosses.specs.Declarations.{bins_walked}

abbrev pub infos : List Made → List BinInfo
infos bins = map (λ made. made.bin) bins

-- ---- removal

-- the bin takes the product from bins of a kind
abbrev pub takes : BinKind → (product : List ℕ) → BinInfo → Bool
takes kind product bin = takes_from bin.kind kind && picks product bin.rule

-- some product that the bin selects is left to it
abbrev pub has_left : (sizes : List ℕ) → List BinInfo → BinInfo → Bool
has_left sizes bins bin = list_any (λ product. picks product bin.rule && is_left bins bin.kind product) (products sizes)

-- the bin, if it has something left: else it is none of the cross
abbrev pub left_of : (sizes : List ℕ) → List BinInfo → Made → List Made
left_of sizes bins made = if has_left sizes bins made.bin then made ∷ [] else []

unfoldable pub bins_left : (sizes : List ℕ) → List Made → List Made
bins_left sizes bins = flat_map (left_of sizes (infos bins)) bins

-- ---- automatic bins

abbrev pub coverage_name : BinInfo → List (List ℕ)
coverage_name bin = if is_coverage bin.kind then bin.name ∷ [] else []

-- the names of the coverage bins of an item
abbrev pub coverage_names : Option ItemInfo → List (List ℕ)
coverage_names None = []
coverage_names (Some item) = flat_map coverage_name item.bins

-- the names of the coverage bins of each crossed point
abbrev pub sides : List ItemInfo → List ℕ → List (List (List ℕ))
sides items axes = map (λ axis. coverage_names (slice_get items axis)) axes

abbrev pub name_in : Option (List (List ℕ)) → ℕ → List ℕ
name_in None bin = []
name_in (Some names) bin = slice_index_or names bin []

-- the names of a product's members from an axis on: the first behind a separator, the others behind commas
abbrev pub member_names : (separator : ℕ) → List (List (List ℕ)) → ℕ → (product : List ℕ) → List ℕ
member_names separator names axis [] = []
member_names separator names axis (bin ∷ product) = separator ∷ (name_in (slice_get names axis) bin ++ member_names 44 names (axis + 1) product)

-- `<x,y>`
unfoldable pub product_name : List (List (List ℕ)) → (product : List ℕ) → List ℕ
product_name names product = member_names 60 names 0 product ++ 62 ∷ []

-- the automatic bin of a product of a cross at `at`
abbrev pub automatic_bin : List (List (List ℕ)) → ℕ → (product : List ℕ) → Made
automatic_bin names at product = record {
  bin = record { name = product_name names product; kind = CvgBin; rule = Product product; guard = None };
  at = at;
  declared = None;
}

-- automatic bins beside so many declared ones, none of which is removed yet
unfoldable pub automatic_fit : (have : ℕ) → List (List ℕ) → ℕ → Result (List (List ℕ)) Refusal
automatic_fit have products at = do
  _ ← needs (nat_le (have + length products) most_bins) kind.TooManyBins at
  Ok products

-- ---- the bins of a cross

-- the declared bins that have something left, and an automatic bin for each product that none of the declared ones selects
unfoldable pub bins_completed : List ItemInfo → List ℕ → (sizes : List ℕ) → List Made → ℕ → Result (List Made) Refusal
bins_completed items axes sizes bins at = do
  products ← automatic_fit (length bins) (automatic_products sizes (infos bins)) at
  Ok (bins_left sizes bins ++ map (automatic_bin (sides items axes) at) products)

-- the bins of a cross at `at`, of points with so many coverage bins
unfoldable pub bins_of_cross : Levels → Crossed → (sizes : List ℕ) → List CrossBins → ℕ → Result (List Made) Refusal
bins_of_cross levels c sizes bs at = do
  w ← bins_walked levels c bs
  bins_completed c.items c.axes sizes w.bins at
