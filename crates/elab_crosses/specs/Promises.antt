-- What holds of the bins of a cross.
use Rattle.std.specs.Prelude.{◌≡◌, ℕ, ◌≤◌, List, length, drop, Ok, IsTrue}
use Rattle.std.specs.List.{AllByRecursion, flat_map}
use Rattle.cov_ground.specs.Limits.{most_points, most_products, most_bins}
use Rattle.cov_tree.specs.declared.groups.Sel.{Sel}
use Rattle.cov_tree.specs.declared.groups.CrossBins.{CrossBins}
use Rattle.const_eval.specs.Scopes.{Levels}
use Rattle.cross_select.specs.declared.select.Select.{Select}
use Rattle.cross_select.specs.Products.{product_of}
use Rattle.design_data.specs.declared.infos.ItemInfo.{ItemInfo}
use Rattle.design_data.specs.Bins.{sizes_of}
use Rattle.design_data.specs.Crosses.{fits}
use Rattle.design_data.specs.Laws.{automatic_products, members_of, HasAutomatic}
use Rattle.design_data.specs.Limits.{IsPointIndex, IsCrossRule}
use Rattle.elab_values.specs.declared.made.Made.{Made}
use Rattle.elab_crosses.specs.declared.axes.Axis.{Axis}
use Rattle.elab_crosses.specs.declared.axes.Axis.TheVariants as axis
use Rattle.elab_crosses.specs.Axes.{Around, axes_named, sizes_fit}
use Rattle.elab_crosses.specs.Selections.{Crossed, selection_of}
use Rattle.elab_crosses.specs.Removal.{infos, bins_left, bins_completed, bins_of_cross}

-- Behind the declared bins that have something left stands an automatic bin for each product that none of the declared
-- bins selects, removed ones among them, and for no other; in the order of the products (IEEE 1800-2017, 19.6).
abbrev pub AutomaticAreUnpicked : Type 0
AutomaticAreUnpicked = (items : List ItemInfo) (axes sizes : List ℕ) (bins : List Made) (at : ℕ) (all : List Made) → bins_completed items axes sizes bins at ≡ Ok all
    → flat_map (λ bin. members_of bin.rule) (infos (drop (length (bins_left sizes bins)) all)) ≡ automatic_products sizes (infos bins)

-- A selection says for each coverage bin of a crossed point whether it is chosen; each name of the cross has its point.
abbrev pub SelectionsFit : Type 0
SelectionsFit = (levels : Levels) (c : Crossed) → length c.names ≤ length c.axes → (s : Sel) (select : Select) → selection_of levels c s ≡ Ok select → IsTrue (fits (sizes_of c.items c.axes) select)

-- All bins of a cross are bins that a cross of a design may have: each has some product that none of these bins takes
-- from it, and each automatic one has a product of the cross.
abbrev pub BinsAreOfTheCross : Type 0
BinsAreOfTheCross = (levels : Levels) (c : Crossed) (bs : List CrossBins) (at : ℕ) (made : List Made) → length c.names ≤ length c.axes → bins_of_cross levels c (sizes_of c.items c.axes) bs at ≡ Ok made
    → AllByRecursion (λ bin. IsCrossRule (sizes_of c.items c.axes) (infos made) bin.kind bin.rule) (infos made)

-- A cross has 65,536 bins at most.
abbrev pub BinsAreFew : Type 0
BinsAreFew = (levels : Levels) (c : Crossed) (sizes : List ℕ) (bs : List CrossBins) (at : ℕ) (made : List Made) → bins_of_cross levels c sizes bs at ≡ Ok made → length made ≤ most_bins

-- Among all bins of a cross stands an automatic bin for each product that none of them selects, and for no other: a bin
-- that is left out selects nothing that no other bin selects (IEEE 1800-2017, 19.6).
abbrev pub BinsHaveAutomatic : Type 0
BinsHaveAutomatic = (levels : Levels) (c : Crossed) (bs : List CrossBins) (at : ℕ) (made : List Made) → length c.names ≤ length c.axes → bins_of_cross levels c (sizes_of c.items c.axes) bs at ≡ Ok made → HasAutomatic (sizes_of c.items c.axes) (infos made)

-- A point of a cross is an item that is a point, or is an implicit one.
abbrev pub IsPointAxis : List ItemInfo → Axis → Type 0
IsPointAxis items (axis.Item index) = IsPointIndex items index
IsPointAxis items (axis.Implicit name) = Unit {0}

-- A cross has a point for each of its names, and 16 at most.
abbrev pub AxesArePoints : Type 0
AxesArePoints = (around : Around) (names : List (List ℕ)) (at : ℕ) (axes : List Axis) → axes_named around names at ≡ Ok axes → (length axes ≡ length names) × (length axes ≤ most_points) × AllByRecursion (IsPointAxis around.items) axes

-- The sizes of a cross are those of its points, which have 1,048,576 products at most.
abbrev pub ProductsAreFew : Type 0
ProductsAreFew = (items : List ItemInfo) (axes : List ℕ) (at : ℕ) (sizes : List ℕ) → sizes_fit items axes at ≡ Ok sizes → (sizes ≡ sizes_of items axes) × (product_of (sizes_of items axes) ≤ most_products)
