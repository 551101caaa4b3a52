-- Nodes that are put behind others are more, and are below nodes that stand before them.
use Rattle.std.proofs.Common.{ℕ, ◌+◌, ◌≤◌, List, [], ◌∷◌, ◌++◌, length, arith}
use Rattle.std.proofs.lemmas.List.{length_push}
use Rattle.design_data.specs.declared.infos.BinInfo.{BinInfo}
use Rattle.design_data.specs.declared.infos.ItemInfo.{ItemInfo}
use Rattle.design_data.specs.declared.infos.InstInfo.{InstInfo}
use Rattle.design_data.specs.declared.infos.GroupInfo.{GroupInfo}
use Rattle.design_data.specs.Bins.{bins_in}
use Rattle.ucis_model.specs.declared.node.Node.{Node}
use Rattle.ucis_model.specs.Nodes.{bin_node, item_node, instance_node, group_node, with_bins, with_item, with_items, with_instance, with_instances, with_group}

push_longer : (before : List Node) (node : Node) → length before ≤ length (before ++ node ∷ [])
push_longer before node = let e = length_push before node in omega (arith, e)

pub bins_longer : (parent at_least next : ℕ) (bins : List BinInfo) (before : List Node) → length before ≤ length (with_bins parent at_least next bins before)
bins_longer parent at_least next [] before = omega arith
bins_longer parent at_least next (bin ∷ bins) before =
    let h = push_longer before (bin_node parent at_least next bin) in
    let g = bins_longer parent at_least (next + 1) bins (before ++ bin_node parent at_least next bin ∷ []) in omega (arith, h, g)

pub item_longer : (parent next : ℕ) (item : ItemInfo) (before : List Node) → length before ≤ length (with_item parent next item before)
unfolding with_item
item_longer parent next item before =
    let h = push_longer before (item_node parent next item) in
    let g = bins_longer (length before) item.at_least next item.bins (before ++ item_node parent next item ∷ []) in omega (arith, h, g)

pub items_longer : (parent next : ℕ) (items : List ItemInfo) (before : List Node) → length before ≤ length (with_items parent next items before)
items_longer parent next [] before = omega arith
items_longer parent next (item ∷ items) before =
    let h = item_longer parent next item before in
    let g = items_longer parent (next + length item.bins) items (with_item parent next item before) in omega (arith, h, g)

pub instance_longer : (parent next : ℕ) (inst : InstInfo) (before : List Node) → length before ≤ length (with_instance parent next inst before)
unfolding with_instance
instance_longer parent next inst before =
    let h = push_longer before (instance_node parent next inst) in
    let g = items_longer (length before) next inst.items (before ++ instance_node parent next inst ∷ []) in omega (arith, h, g)

pub instances_longer : (parent next : ℕ) (insts : List InstInfo) (before : List Node) → length before ≤ length (with_instances parent next insts before)
instances_longer parent next [] before = omega arith
instances_longer parent next (inst ∷ insts) before =
    let h = instance_longer parent next inst before in
    let g = instances_longer parent (next + bins_in inst.items) insts (with_instance parent next inst before) in omega (arith, h, g)

pub group_longer : (next : ℕ) (group : GroupInfo) (own : List InstInfo) (before : List Node) → length before ≤ length (with_group next group own before)
unfolding with_group
group_longer next group [] before = omega arith
group_longer next group (inst ∷ insts) before =
    let h = push_longer before (group_node next group (inst ∷ insts)) in
    let g = instances_longer (length before) next (inst ∷ insts) (before ++ group_node next group (inst ∷ insts) ∷ []) in omega (arith, h, g)
