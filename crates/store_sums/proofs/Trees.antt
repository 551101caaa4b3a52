-- Each node of a design but the root is below one of a smaller place.
use Rattle.std.proofs.Common.{ℕ, ◌+◌, ◌<◌, List, [], ◌∷◌, ◌++◌, length, arith}
use Rattle.std.proofs.lemmas.List.{length_push}
use Rattle.design_data.specs.declared.infos.BinInfo.{BinInfo}
use Rattle.design_data.specs.declared.infos.ItemInfo.{ItemInfo}
use Rattle.design_data.specs.declared.infos.InstInfo.{InstInfo}
use Rattle.design_data.specs.declared.infos.GroupInfo.{GroupInfo}
use Rattle.design_data.specs.declared.design.Design.{Design}
use Rattle.design_data.specs.Bins.{bins_in}
use Rattle.ucis_model.specs.declared.node.Node.{Node}
use Rattle.ucis_model.specs.Nodes.{bins_of, own_of, root_node, bin_node, item_node, instance_node, group_node, with_bins, with_item, with_items, with_instance, with_instances, with_group, with_groups, nodes_of}
use Rattle.ucis_model.specs.Paths.{HasSmallerParents}
use Rattle.ucis_model.proofs.Parents.{parents_more, one_has_none}
use Rattle.ucis_model.proofs.Longer.{item_longer, instance_longer, group_longer}

bins_small : (parent at_least next : ℕ) (bins : List BinInfo) (before : List Node) → HasSmallerParents before → parent < length before → HasSmallerParents (with_bins parent at_least next bins before)
bins_small parent at_least next [] before s lt = s
bins_small parent at_least next (bin ∷ bins) before s lt =
    let node = bin_node parent at_least next bin in
    let e = length_push before node in
    bins_small parent at_least (next + 1) bins (before ++ node ∷ []) (parents_more before node s lt) (omega (arith, lt, e))

item_small : (parent next : ℕ) (item : ItemInfo) (before : List Node) → HasSmallerParents before → parent < length before → HasSmallerParents (with_item parent next item before)
unfolding with_item
item_small parent next item before s lt =
    let node = item_node parent next item in
    let e = length_push before node in
    bins_small (length before) item.at_least next item.bins (before ++ node ∷ []) (parents_more before node s lt) (omega (arith, e))

items_small : (parent next : ℕ) (items : List ItemInfo) (before : List Node) → HasSmallerParents before → parent < length before → HasSmallerParents (with_items parent next items before)
items_small parent next [] before s lt = s
items_small parent next (item ∷ items) before s lt =
    let e = item_longer parent next item before in
    items_small parent (next + length item.bins) items (with_item parent next item before) (item_small parent next item before s lt) (omega (arith, lt, e))

instance_small : (parent next : ℕ) (inst : InstInfo) (before : List Node) → HasSmallerParents before → parent < length before → HasSmallerParents (with_instance parent next inst before)
unfolding with_instance
instance_small parent next inst before s lt =
    let node = instance_node parent next inst in
    let e = length_push before node in
    items_small (length before) next inst.items (before ++ node ∷ []) (parents_more before node s lt) (omega (arith, e))

instances_small : (parent next : ℕ) (insts : List InstInfo) (before : List Node) → HasSmallerParents before → parent < length before → HasSmallerParents (with_instances parent next insts before)
instances_small parent next [] before s lt = s
instances_small parent next (inst ∷ insts) before s lt =
    let e = instance_longer parent next inst before in
    instances_small parent (next + bins_in inst.items) insts (with_instance parent next inst before) (instance_small parent next inst before s lt) (omega (arith, lt, e))

group_small : (next : ℕ) (group : GroupInfo) (own : List InstInfo) (before : List Node) → HasSmallerParents before → 0 < length before → HasSmallerParents (with_group next group own before)
unfolding with_group
group_small next group [] before s lt = s
group_small next group (inst ∷ insts) before s lt =
    let node = group_node next group (inst ∷ insts) in
    let e = length_push before node in
    instances_small (length before) next (inst ∷ insts) (before ++ node ∷ []) (parents_more before node s lt) (omega (arith, e))

groups_small : (next : ℕ) (instances : List InstInfo) (place : ℕ) (groups : List GroupInfo) (before : List Node) → HasSmallerParents before → 0 < length before → HasSmallerParents (with_groups next instances place groups before)
groups_small next instances place [] before s lt = s
groups_small next instances place (group ∷ groups) before s lt =
    let own = own_of instances place in
    let e = group_longer next group own before in
    groups_small (next + bins_of own) instances (place + 1) groups (with_group next group own before) (group_small next group own before s lt) (omega (arith, lt, e))

pub nodes_small : (d : Design) → HasSmallerParents (nodes_of d)
unfolding nodes_of
nodes_small d = groups_small 0 d.instances 0 d.groups (root_node d.bin_count ∷ []) (one_has_none (root_node d.bin_count)) (omega arith)
