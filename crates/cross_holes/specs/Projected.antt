-- The projected holes of a cross: members of crossed points such that no product with them is covered (IEEE 1800-2017,
-- 19.6). A bin is told by its node, an axis by its number, and a member of an axis by its number among the coverage bins of
-- the crossed point.
use Rattle.std.specs.Prelude.{ℕ, ◌-◌, ◌==◌, nat_lt, nat_le, List, [], map, filter, count_by, length, slice_get, slice_index_or, Option, Some, None, Bool, false, not, ◌&&◌}
use Rattle.std.specs.Option.{option_and_then, option_map_or}
use Rattle.std.specs.List.{flat_map, list_any, range_with_len}
use Rattle.design_data.specs.declared.infos.BinInfo.{BinInfo}
use Rattle.design_data.specs.declared.infos.BinRule.{BinRule}
use Rattle.design_data.specs.declared.infos.BinRule.TheVariants.{Values, Patterns, Trans, Default, DefaultValues, DefaultSequence, Picked, Product}
use Rattle.design_data.specs.declared.infos.ItemInfo.{ItemInfo}
use Rattle.design_data.specs.declared.infos.ItemShape.{ItemShape}
use Rattle.design_data.specs.declared.infos.ItemShape.TheVariants as shape
use Rattle.design_data.specs.Bins.{coverage_bins}
use Rattle.ucis_model.specs.declared.node.Node.{Node}
use Rattle.ucis_model.specs.Paths.{node_at}
use Rattle.cross_holes.specs.declared.axes.Axis.{Axis}
use Rattle.cross_holes.specs.declared.holes.ProjectedHole.{ProjectedHole}

-- ---- crossed points

-- the axis of a crossed point: its name, and those of its members
abbrev pub axis_of : Option ItemInfo → Axis
axis_of None = record { point = []; members = [] }
axis_of (Some item) = record { point = item.name; members = map (λ bin. bin.name) (coverage_bins item) }

-- the axes of an item of an instance with these items; a point has none
abbrev pub axes_of : List ItemInfo → ItemShape → List Axis
axes_of items (shape.Point expr) = []
axes_of items (shape.Cross axes) = map (λ index. axis_of (slice_get items index)) axes

-- ---- members of bins

-- the members of an automatic bin, one on each axis; other bins have none
abbrev pub members_of : BinRule → List ℕ
members_of (Values set) = []
members_of (Patterns patterns) = []
members_of (Trans seqs) = []
members_of Default = []
members_of (DefaultValues set) = []
members_of DefaultSequence = []
members_of (Picked select) = []
members_of (Product members) = members

-- the bin of an item that has this number in the design
abbrev pub bin_of : ItemInfo → (number : ℕ) → Option BinInfo
bin_of item number = slice_get item.bins (number - item.first_bin)

-- the member on an axis of the bin of an item that a node is
abbrev pub member_on : List Node → ItemInfo → (axis n : ℕ) → Option ℕ
member_on nodes item axis n = option_and_then (λ bin. slice_get (members_of bin.rule) axis) (bin_of item (node_at nodes n).first_bin)

-- how many of the bins have this member
abbrev pub with_member : (member_of : ℕ → Option ℕ) → (member : ℕ) → (bins : List ℕ) → ℕ
with_member member_of member bins = count_by (λ n. option_map_or (λ own. own == member) (member_of n) false) bins

-- ---- crosses

-- A cross: its axes, the member that each bin has on an axis, its live bins, and those of them that are holes.
pub record Cross : Type 0 where
  pub axes : List Axis
  pub member : (axis n : ℕ) → Option ℕ
  pub live : List ℕ
  pub holes : List ℕ

-- a cross with these axes
abbrev pub cross_with : List Axis → List Node → ItemInfo → (live holes : List ℕ) → Cross
cross_with axes nodes item live holes = record { axes = axes; member = member_on nodes item; live = live; holes = holes }

-- an item of an instance with these items as a cross; where there is none, or a point, it has no axis
abbrev pub cross_of : List Node → List ItemInfo → Option ItemInfo → (live holes : List ℕ) → Cross
cross_of nodes items None live holes = record { axes = []; member = λ axis n. None; live = live; holes = holes }
cross_of nodes items (Some item) live holes = cross_with (axes_of items item.shape) nodes item live holes

abbrev pub axis_at : Cross → ℕ → Axis
axis_at c axis = slice_index_or c.axes axis (axis_of None)

-- ---- projected holes

-- of so many live bins so many are holes: all of them, and two at least
abbrev pub is_bare : (holes live : ℕ) → Bool
is_bare holes live = nat_le 2 holes && (holes == live)

-- A member is a projected hole where two live bins have it at least, and each live bin that has it is a hole. So bins that
-- are excluded, ignored or illegal, and declared ones, say nothing for or against it.
abbrev pub is_projected : Cross → (axis member : ℕ) → Bool
is_projected c axis member = is_bare (with_member (c.member axis) member c.holes) (with_member (c.member axis) member c.live)

-- the member of a bin on the axis is one
abbrev pub is_projected_on : Cross → (axis n : ℕ) → Bool
is_projected_on c axis n = option_map_or (λ member. nat_lt member (length (axis_at c axis).members) && is_projected c axis member) (c.member axis n) false

-- its member on one of the first so many axes is one
abbrev pub is_said : Cross → (axes n : ℕ) → Bool
is_said c axes n = list_any (λ axis. is_projected_on c axis n) (range_with_len 0 axes)

-- the holes that are in no projected hole of the first so many axes
abbrev pub unsaid : Cross → (axes : ℕ) → List ℕ
unsaid c axes = filter (λ n. not (is_said c axes n)) c.holes

-- a projected hole with a hole that is in none of an earlier axis
abbrev pub says_more : Cross → (axis member : ℕ) → Bool
says_more c axis member = is_projected c axis member && nat_lt 0 (with_member (c.member axis) member (unsaid c axis))

-- the names of a point and of one of its members
abbrev pub named : Axis → (member : ℕ) → ProjectedHole
named axis member = record { point = axis.point; member = slice_index_or axis.members member [] }

-- those of an axis, in the order of its members
abbrev pub projected_on : Cross → (axis : ℕ) → List ProjectedHole
projected_on c axis = map (named (axis_at c axis)) (filter (says_more c axis) (range_with_len 0 (length (axis_at c axis).members)))

-- Those of all axes in order: each with a hole that is in none before it, so that each hole is said once.
abbrev pub projected : Cross → List ProjectedHole
projected c = flat_map (projected_on c) (range_with_len 0 (length c.axes))

-- the holes that are in no projected hole
abbrev pub alone : Cross → List ℕ
alone c = unsaid c (length c.axes)
