-- The nodes of a design, depth first: the root, then each group that has an instance, its instances, their items, and the
-- bins of these, which are numbered from 0 in this order (IEEE 1800-2017, clause 19; names after UCIS).
use Rattle.std.specs.Prelude.{ℕ, ◌+◌, ◌==◌, List, [], ◌∷◌, ◌++◌, length, filter, Bool, true, false}
use Rattle.design_data.specs.declared.design.Design.{Design}
use Rattle.design_data.specs.declared.infos.BinInfo.{BinInfo}
use Rattle.design_data.specs.declared.infos.ItemInfo.{ItemInfo}
use Rattle.design_data.specs.declared.infos.ItemShape.{ItemShape}
use Rattle.design_data.specs.declared.infos.ItemShape.TheVariants as shape
use Rattle.design_data.specs.declared.infos.InstInfo.{InstInfo}
use Rattle.design_data.specs.declared.infos.GroupInfo.{GroupInfo}
use Rattle.design_data.specs.Bins.{bins_in, total}
use Rattle.ucis_model.specs.declared.node.Node.{Node}
use Rattle.ucis_model.specs.declared.node.NodeKind.{NodeKind}
use Rattle.ucis_model.specs.declared.node.NodeKind.TheVariants as kinds

-- ---- single nodes; `next` is the number of the next bin

abbrev pub root_node : (bins : ℕ) → Node
root_node bins = record { kind = kinds.Root; name = []; parent = 0; first_bin = 0; bins = bins; weight = 1; type_weight = 1; goal = 100; at_least = 1; merge = false }

-- how many bins instances have
abbrev pub bins_of : List InstInfo → ℕ
bins_of instances = total (λ inst. bins_in inst.items) instances

abbrev pub group_node : (next : ℕ) → GroupInfo → (own : List InstInfo) → Node
group_node next group own = record { kind = kinds.CoverGroup; name = group.name; parent = 0; first_bin = next; bins = bins_of own; weight = group.weight; type_weight = 1; goal = group.goal; at_least = 1; merge = group.merge }

abbrev pub instance_node : (parent next : ℕ) → InstInfo → Node
instance_node parent next inst = record { kind = kinds.CoverInstance; name = inst.name; parent = parent; first_bin = next; bins = bins_in inst.items; weight = inst.weight; type_weight = 1; goal = inst.goal; at_least = 1; merge = false }

abbrev pub kind_of : ItemShape → NodeKind
kind_of (shape.Point expr) = kinds.CoverPoint
kind_of (shape.Cross axes) = kinds.Cross

abbrev pub item_node : (parent next : ℕ) → ItemInfo → Node
item_node parent next item = record { kind = kind_of item.shape; name = item.name; parent = parent; first_bin = next; bins = length item.bins; weight = item.weight; type_weight = item.type_weight; goal = item.goal; at_least = item.at_least; merge = false }

-- a bin of an item whose bins have to be hit so often
abbrev pub bin_node : (parent at_least next : ℕ) → BinInfo → Node
bin_node parent at_least next bin = record { kind = kinds.Bin bin.kind; name = bin.name; parent = parent; first_bin = next; bins = 1; weight = 1; type_weight = 1; goal = 100; at_least = at_least; merge = false }

-- ---- nodes behind those that stand before them; a node's place is how many stand before it

abbrev pub with_bins : (parent at_least next : ℕ) → List BinInfo → (before : List Node) → List Node
with_bins parent at_least next [] before = before
with_bins parent at_least next (bin ∷ bins) before = with_bins parent at_least (next + 1) bins (before ++ bin_node parent at_least next bin ∷ [])

unfoldable pub with_item : (parent next : ℕ) → ItemInfo → (before : List Node) → List Node
with_item parent next item before = with_bins (length before) item.at_least next item.bins (before ++ item_node parent next item ∷ [])

abbrev pub with_items : (parent next : ℕ) → List ItemInfo → (before : List Node) → List Node
with_items parent next [] before = before
with_items parent next (item ∷ items) before = with_items parent (next + length item.bins) items (with_item parent next item before)

unfoldable pub with_instance : (parent next : ℕ) → InstInfo → (before : List Node) → List Node
with_instance parent next inst before = with_items (length before) next inst.items (before ++ instance_node parent next inst ∷ [])

abbrev pub with_instances : (parent next : ℕ) → List InstInfo → (before : List Node) → List Node
with_instances parent next [] before = before
with_instances parent next (inst ∷ insts) before = with_instances parent (next + bins_in inst.items) insts (with_instance parent next inst before)

-- a group with its own instances; one without has no node
unfoldable pub with_group : (next : ℕ) → GroupInfo → (own : List InstInfo) → (before : List Node) → List Node
with_group next group [] before = before
with_group next group (inst ∷ insts) before =
    with_instances (length before) next (inst ∷ insts) (before ++ group_node next group (inst ∷ insts) ∷ [])

-- the instances of the group at a place
abbrev pub own_of : List InstInfo → ℕ → List InstInfo
own_of instances place = filter (λ inst. inst.group == place) instances

abbrev pub has_some : List InstInfo → Bool
has_some [] = false
has_some (inst ∷ insts) = true

-- groups, the first of which has this place
abbrev pub with_groups : (next : ℕ) → List InstInfo → ℕ → List GroupInfo → (before : List Node) → List Node
with_groups next instances place [] before = before
with_groups next instances place (group ∷ groups) before =
    with_groups (next + bins_of (own_of instances place)) instances (place + 1) groups (with_group next group (own_of instances place) before)

-- the nodes of a design
unfoldable pub nodes_of : Design → List Node
nodes_of d = with_groups 0 d.instances 0 d.groups (root_node d.bin_count ∷ [])
