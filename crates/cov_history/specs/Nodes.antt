-- What the nodes of a design say, by their places. Node 0 is the root.
use Rattle.std.specs.Prelude.{ℕ, ◌==◌, nat_lt, List, map, length, filter, take, drop, slice_get, Option, Bool, true, false, ◌&&◌}
use Rattle.std.specs.List.{range_with_len}
use Rattle.design_data.specs.declared.infos.BinKind.{BinKind}
use Rattle.design_data.specs.declared.infos.BinKind.TheVariants.{CvgBin, IllegalBin, IgnoreBin, DefaultBin}
use Rattle.ucis_model.specs.declared.node.Node.{Node}
use Rattle.ucis_model.specs.declared.node.NodeKind.{NodeKind}
use Rattle.ucis_model.specs.declared.node.NodeKind.TheVariants.{Root, CoverGroup, CoverInstance, CoverPoint, Cross, Bin}
use Rattle.ucis_model.specs.Paths.{node_at}

abbrev pub parents_of : List Node → List ℕ
parents_of nodes = map (λ m. m.parent) nodes

abbrev pub all_nodes : List Node → List ℕ
all_nodes nodes = range_with_len 0 (length nodes)

-- the nodes right below it, in order
abbrev pub children : List Node → ℕ → List ℕ
children nodes n = filter (λ m. nat_lt 0 m && ((node_at nodes m).parent == n)) (all_nodes nodes)

-- ---- bins

abbrev pub is_bin : NodeKind → Bool
is_bin (Bin kind) = true
is_bin Root = false
is_bin CoverGroup = false
is_bin CoverInstance = false
is_bin CoverPoint = false
is_bin Cross = false

abbrev pub bin_kind : NodeKind → BinKind
bin_kind (Bin kind) = kind
bin_kind Root = DefaultBin
bin_kind CoverGroup = DefaultBin
bin_kind CoverInstance = DefaultBin
bin_kind CoverPoint = DefaultBin
bin_kind Cross = DefaultBin

abbrev pub is_illegal : BinKind → Bool
is_illegal IllegalBin = true
is_illegal CvgBin = false
is_illegal IgnoreBin = false
is_illegal DefaultBin = false

-- the bins' nodes in order, which is that of their numbers
abbrev pub bin_nodes : List Node → List ℕ
bin_nodes nodes = filter (λ n. is_bin (node_at nodes n).kind) (all_nodes nodes)

-- the node of the bin of this number
abbrev pub node_of_bin : List Node → ℕ → Option ℕ
node_of_bin nodes bin = slice_get (bin_nodes nodes) bin

-- the nodes of the bins under a node
abbrev pub bins_under : List Node → ℕ → List ℕ
bins_under nodes n = take (node_at nodes n).bins (drop (node_at nodes n).first_bin (bin_nodes nodes))

abbrev pub kind_of_bin : List Node → ℕ → BinKind
kind_of_bin nodes n = bin_kind (node_at nodes n).kind
