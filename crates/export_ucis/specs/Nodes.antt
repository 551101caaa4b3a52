-- The types of a history with their instances, items and bins, as elements of the interchange format. The key of each is the
-- place of its node.
use Rattle.std.specs.Prelude.{ℕ, List, [], ◌∷◌, codes}
use Rattle.std.specs.Option.{option_map_or}
use Rattle.const_eval.specs.Typs.{Typ}
use Rattle.const_eval.specs.Terms.{Term, typ_of}
use Rattle.design_data.specs.declared.design.Design.{Design}
use Rattle.design_data.specs.declared.infos.Signal.{Signal}
use Rattle.design_data.specs.declared.infos.BinInfo.{BinInfo}
use Rattle.design_data.specs.declared.infos.InstInfo.{InstInfo}
use Rattle.design_data.specs.declared.infos.ItemInfo.{ItemInfo}
use Rattle.design_data.specs.declared.infos.ItemShape.{ItemShape}
use Rattle.design_data.specs.declared.infos.ItemShape.TheVariants.{Point, Cross}
use Rattle.markup.specs.Trees.{Markup, Nothing, Both, Break, Element, number, each, each_pair, line}
use Rattle.ucis_model.specs.declared.node.Node.{Node}
use Rattle.ucis_model.specs.Paths.{node_at}
use Rattle.ucis_elements.specs.Bins.{point_bin, cross_bin}
use Rattle.ucis_elements.specs.Items.{point_with, cross_with, instance_with}
use Rattle.cov_history.specs.declared.entry.Entry.{Entry}
use Rattle.cov_history.specs.Nodes.{children, bins_under}
use Rattle.cov_history.specs.Coverage.{count_at}
use Rattle.cov_history.specs.History.{design_of, count_of}
use Rattle.cov_history.specs.Answers.{nodes_at, excluded_at}
use Rattle.store_views.specs.Views.{instance_at}

-- ---- bins (IEEE 1800-2017, 19.5, 19.6), each of which is the node at n

-- how often the bin that a node is was hit
abbrev pub hits_at : (opening : Design) → List Entry → ℕ → ℕ
hits_at opening h n = count_at (nodes_at opening h) (count_of opening h) n

-- a bin of a point of this type
unfoldable pub bin_of_point : (opening : Design) → List Entry → Typ → BinInfo → ℕ → Markup
bin_of_point opening h typ bin n = point_bin typ n (excluded_at opening h n) (hits_at opening h n) bin

unfoldable pub bin_of_cross : (opening : Design) → List Entry → BinInfo → ℕ → Markup
bin_of_cross opening h bin n = cross_bin n (excluded_at opening h n) (hits_at opening h n) bin

-- the bins of an item, each with its node
unfoldable pub bins_of_point : (opening : Design) → List Entry → Typ → List BinInfo → (nodes : List ℕ) → Markup
bins_of_point opening h typ bins nodes = each_pair (bin_of_point opening h typ) bins nodes

unfoldable pub bins_of_cross : (opening : Design) → List Entry → List BinInfo → (nodes : List ℕ) → Markup
bins_of_cross opening h bins nodes = each_pair (bin_of_cross opening h) bins nodes

-- ---- coverpoints (19.5) and crosses (19.6), each of which is the node at n

-- a coverpoint of this expression, of an instance with these arguments
unfoldable pub coverpoint : (opening : Design) → List Entry → (arguments : List Signal) → Term → ItemInfo → ℕ → Markup
coverpoint opening h arguments expr item n =
    point_with (design_of opening h).signals arguments n (excluded_at opening h n) item
    (bins_of_point opening h (typ_of expr) item.bins (bins_under (nodes_at opening h) n))

-- a cross of the points at these places among the items
unfoldable pub cross : (opening : Design) → List Entry → (items : List ItemInfo) → (axes : List ℕ) → ItemInfo → ℕ → Markup
cross opening h items axes item n =
    cross_with items axes n (excluded_at opening h n) item (bins_of_cross opening h item.bins (bins_under (nodes_at opening h) n))

-- an item where it is a coverpoint, and where it is a cross
abbrev pub point_by : (opening : Design) → List Entry → (arguments : List Signal) → ItemInfo → ItemShape → ℕ → Markup
point_by opening h arguments item (Point expr) n = coverpoint opening h arguments expr item n
point_by opening h arguments item (Cross axes) n = Nothing

abbrev pub cross_by : (opening : Design) → List Entry → (items : List ItemInfo) → ItemInfo → ItemShape → ℕ → Markup
cross_by opening h items item (Point expr) n = Nothing
cross_by opening h items item (Cross axes) n = cross opening h items axes item n

unfoldable pub point_of : (opening : Design) → List Entry → (arguments : List Signal) → ItemInfo → ℕ → Markup
point_of opening h arguments item n = point_by opening h arguments item item.shape n

unfoldable pub cross_of : (opening : Design) → List Entry → (items : List ItemInfo) → ItemInfo → ℕ → Markup
cross_of opening h items item n = cross_by opening h items item item.shape n

-- the coverpoints among items, and the crosses, each with its node
unfoldable pub points_of : (opening : Design) → List Entry → (arguments : List Signal) → List ItemInfo → (nodes : List ℕ) → Markup
points_of opening h arguments items nodes = each_pair (point_of opening h arguments) items nodes

unfoldable pub crosses_of : (opening : Design) → List Entry → List ItemInfo → (nodes : List ℕ) → Markup
crosses_of opening h items nodes = each_pair (cross_of opening h items) items nodes

-- ---- instances (19.3) and types

-- the items of an instance, which is the node at n: the coverpoints stand before the crosses, as the format has them
abbrev pub items_of : (opening : Design) → List Entry → InstInfo → (nodes : List ℕ) → Markup
items_of opening h inst nodes = Both (points_of opening h inst.args inst.items nodes) (crosses_of opening h inst.items nodes)

-- an instance of a type
unfoldable pub instance_element : (opening : Design) → List Entry → (group : Node) → InstInfo → ℕ → Markup
instance_element opening h group inst n =
    instance_with group.name group.merge n (excluded_at opening h n) inst (items_of opening h inst (children (nodes_at opening h) n))

unfoldable pub instance_of : (opening : Design) → List Entry → (group : Node) → ℕ → Markup
instance_of opening h group n =
    option_map_or (λ inst. instance_element opening h group inst n) (instance_at (design_of opening h).instances (nodes_at opening h) n) Nothing

-- the instances of a type that these nodes are
unfoldable pub instances_of : (opening : Design) → List Entry → (group : Node) → (nodes : List ℕ) → Markup
instances_of opening h group nodes = each (instance_of opening h group) nodes

-- a type, which is the node at n, with its instances
unfoldable pub type_with : (opening : Design) → List Entry → (group : Node) → ℕ → Markup
type_with opening h group n =
    line (Element (codes "covergroupCoverage") (number (codes "weight") group.weight ∷ [])
    (Both Break (instances_of opening h group (children (nodes_at opening h) n))))

unfoldable pub type_of_node : (opening : Design) → List Entry → ℕ → Markup
type_of_node opening h n = type_with opening h (node_at (nodes_at opening h) n) n

-- the types that these nodes are
unfoldable pub types_of : (opening : Design) → List Entry → (nodes : List ℕ) → Markup
types_of opening h nodes = each (type_of_node opening h) nodes
