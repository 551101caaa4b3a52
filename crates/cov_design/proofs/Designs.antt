-- What was declared, numbered, is a design.
use Rattle.std.proofs.Common.{◌≡◌, ℕ, zero, suc, ◌+◌, ◌<◌, List, [], ◌∷◌, length, refl, sym, ap, Some, arith}
use Rattle.std.specs.List.{AllByRecursion}
use Rattle.design_data.specs.declared.infos.BinInfo.{BinInfo}
use Rattle.design_data.specs.declared.infos.ItemInfo.{ItemInfo}
use Rattle.design_data.specs.declared.infos.InstInfo.{InstInfo}
use Rattle.design_data.specs.declared.infos.ItemShape.{ItemShape}
use Rattle.design_data.specs.declared.infos.ItemShape.TheVariants.{Point, Cross}
use Rattle.design_data.specs.Bins.{total}
use Rattle.design_data.specs.Limits.{IsItem, IsShape, IsInstance, IsDesign, ranges_of}
use Rattle.elab_base.proofs.Keeps.{all_as}
use Rattle.elab_order.specs.declared.numbers.Load.{Load}
use Rattle.elab_order.specs.Order.{items_numbered, first_of, numbered_from, numbered}
use Rattle.elab_order.proofs.Numbering.{numbered_is_numbered}
use Rattle.elab_order.proofs.Totals.{total-numbered, length-numbered, items_in-numbered}
use Rattle.elab_members.proofs.Among.{AreAlike, cross_among}
use Rattle.cov_design.specs.declared.known.Known.{Known}
use Rattle.cov_design.specs.Invariant.{IsDeclared, IsKnown}

-- ---- numbers change nothing that is known of an item

numbered_alike : (n : ℕ) (items : List ItemInfo) → AreAlike items (items_numbered n items)
numbered_alike n [] index item e = absurd cc
numbered_alike n (x ∷ items) zero item e = (record x { first_bin = n }, refl, ap (λ (y : ItemInfo). y.bins) (some_is item x (sym e)), ap (λ (y : ItemInfo). y.shape) (some_is item x (sym e)))
  where
    some_is : (a b : ItemInfo) → Some a ≡ Some b → a ≡ b
    some_is a b e = cc
numbered_alike n (x ∷ items) (suc index) item e = numbered_alike (n + length x.bins) items index item e

shape_stays : (items others : List ItemInfo) (item : ItemInfo) (n : ℕ) (shape : ItemShape) → AreAlike items others → IsShape items item shape → IsShape others (record item { first_bin = n }) shape
shape_stays items others item n (Point expr) alike h = h
shape_stays items others item n (Cross axes) alike h = cross_among items others item.bins axes alike h

item_stays : (items others : List ItemInfo) (item : ItemInfo) (n : ℕ) → AreAlike items others → IsItem items item → IsItem others (record item { first_bin = n })
item_stays items others item n alike h = record { at_least = h.at_least; bins = h.bins; removing = h.removing; shape = shape_stays items others item n item.shape alike h.shape }

items_stay : (items others : List ItemInfo) (n : ℕ) (xs : List ItemInfo) → AreAlike items others → AllByRecursion (IsItem items) xs → AllByRecursion (IsItem others) (items_numbered n xs)
items_stay items others n [] alike all = tt
items_stay items others n (x ∷ xs) alike all = (item_stays items others x n alike all.0, items_stay items others (n + length x.bins) xs alike all.1)

inst_stays : (groups n : ℕ) (inst : InstInfo) → IsDeclared groups inst → IsInstance groups (record inst { items = items_numbered n inst.items })
inst_stays groups n inst d =
    let args = d.args in
    record { group = d.group; arg_count = args.few; args = args.widths; items = items_stay inst.items (items_numbered n inst.items) n inst.items (numbered_alike n inst.items) d.items }

from_stay : (groups : ℕ) (loads : List Load) (i : ℕ) (insts : List InstInfo) → AllByRecursion (IsDeclared groups) insts → AllByRecursion (IsInstance groups) (numbered_from loads i insts)
from_stay groups loads i [] all = tt
from_stay groups loads i (inst ∷ insts) all = (inst_stays groups (first_of loads i inst.group) inst all.0, from_stay groups loads (i + 1) insts all.1)

all_stay : (groups : ℕ) (insts : List InstInfo) → AllByRecursion (IsDeclared groups) insts → AllByRecursion (IsInstance groups) (numbered insts)
unfolding numbered
all_stay groups insts all = from_stay groups _ 0 insts all

-- ---- the design

pub design_is : (known : Known) → IsKnown known → IsDesign known.outside.signals known.groups (numbered known.instances) known.counts.bins
design_is known k =
    let insts = known.instances in
    let below = all_as (IsDeclared (length known.groups)) (λ (inst : InstInfo). inst.group < length known.groups) (λ inst d. d.group) insts k.each in
    let length' = length-numbered insts in
    let items' = items_in-numbered insts in
    let bins' = total-numbered (λ (item : ItemInfo). length item.bins) (λ item n. refl) known.groups insts below in
    let ranges' = total-numbered (λ (item : ItemInfo). total (λ (bin : BinInfo). ranges_of bin.rule) item.bins) (λ item n. refl) known.groups insts below in
    let i = k.items in
    let few_i = k.few_items in
    let b = k.bins in
    let r = k.ranges in
    let few_r = k.few_ranges in
    let count = k.instance_count in
    record {
      signal_count = k.outside.few;
      widths = k.outside.widths;
      instance_count = omega (arith, count, length');
      item_count = omega (arith, i, few_i, items');
      each = all_stay (length known.groups) insts k.each;
      numbered = numbered_is_numbered known.groups insts;
      count = omega (arith, b, bins');
      few_bins = k.few_bins;
      few_ranges = omega (arith, r, few_r, ranges');
    }
