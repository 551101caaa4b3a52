-- The points of a group on which a cross has `intersect` (IEEE 1800-2017, 19.6.1), read off the text.
use Rattle.std.specs.Prelude.{ℕ, List, [], ◌∷◌, Option, Some, None}
use Rattle.name_map.specs.Names.{Pairs, with_name}
use Rattle.cov_tree.specs.declared.bins.Elem.{Elem}
use Rattle.cov_tree.specs.declared.groups.Sel.{Sel}
use Rattle.cov_tree.specs.declared.groups.Sel.TheOpen.{Sel-F, BinsOf, Not, And, Or}
use Rattle.cov_tree.specs.declared.groups.Sel.TheFolds.{fold-Sel}
use Rattle.cov_tree.specs.declared.groups.CrossBins.{CrossBins}
use Rattle.cov_tree.specs.declared.groups.Member.{Member}
use Rattle.cov_tree.specs.declared.groups.Member.TheVariants as members

-- names with the place of their first `intersect`
abbrev pub Intersected : Type 0
Intersected = Pairs ℕ

abbrev pub with_meets : List ℕ → Option (List Elem) → ℕ → Intersected → Intersected
with_meets point None at names = names
with_meets point (Some list) at names = with_name names point at

abbrev pub sel_layer : Sel-F (Intersected → Intersected) → Intersected → Intersected
sel_layer (BinsOf point bin meets at) names = with_meets point meets at names
sel_layer (Not inner) names = inner names
sel_layer (And left right) names = right (left names)
sel_layer (Or left right) names = right (left names)

abbrev pub with_sel : Sel → Intersected → Intersected
with_sel sel = fold-Sel (Intersected → Intersected) sel_layer sel

abbrev pub with_cross_bins : List CrossBins → Intersected → Intersected
with_cross_bins [] names = names
with_cross_bins (bins ∷ more) names = with_cross_bins more (with_sel bins.sel names)

abbrev pub with_member : Member → Intersected → Intersected
with_member (members.Opt option) names = names
with_member (members.Point point) names = names
with_member (members.Cross cross) names = with_cross_bins cross.bins names

abbrev pub with_members : List Member → Intersected → Intersected
with_members [] names = names
with_members (member ∷ more) names = with_members more (with_member member names)

-- the names on which a cross among the members has `intersect`
unfoldable pub intersected_in : List Member → Intersected
intersected_in members = with_members members []
