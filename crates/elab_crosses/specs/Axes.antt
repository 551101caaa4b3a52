-- Which points a cross names, and how many products it has (IEEE 1800-2017, 19.6).
use Rattle.std.specs.Prelude.{ℕ, List, [], ◌∷◌, ◌++◌, length, slice_get, nat_le, Bool, true, false, not, Option, Some, None, is_some, Result, Ok, Err, if◌then◌else◌}
use Rattle.cov_ground.specs.Limits.{most_points, most_products}
use Rattle.name_map.specs.Names.{Pairs, meaning_of, with_name}
use Rattle.cov_tree.specs.declared.expr.Expr.{Expr}
use Rattle.cov_tree.specs.declared.expr.Expr.TheViews.{out-Expr}
use Rattle.cov_tree.specs.declared.expr.Expr.TheOpen as expr
use Rattle.cov_tree.specs.declared.expr.Expr.TheOpen.{Expr-F}
use Rattle.cov_tree.specs.declared.groups.Member.{Member}
use Rattle.cov_tree.specs.declared.groups.Member.TheVariants as members
use Rattle.cross_select.specs.Products.{product_of}
use Rattle.design_data.specs.declared.infos.ItemInfo.{ItemInfo}
use Rattle.design_data.specs.Bins.{is_point, sizes_of}
use Rattle.elab_base.specs.declared.fault.ElabKind.TheVariants as kind
use Rattle.elab_base.specs.declared.names.What.{What}
use Rattle.elab_base.specs.declared.names.What.TheVariants as what
use Rattle.elab_base.specs.Gives.{Refusal, ◌>>=◌, needs, each}
use Rattle.elab_crosses.specs.declared.axes.Axis.{Axis}
use Rattle.elab_crosses.specs.declared.axes.Axis.TheVariants as axis
use Rattle.elab_crosses.specs.declared.axes.Named.{Named}

-- ---- the names of a group's points

-- the name that an expression is
abbrev pub name_layer : {A : Type 0} → Expr-F A → Option (List ℕ)
name_layer (expr.Num lit at) = None
name_layer (expr.Name name at) = Some name
name_layer (expr.Bit name index at) = None
name_layer (expr.Part name high low at) = None
name_layer (expr.Concat parts at) = None
name_layer (expr.Unary op arg at) = None
name_layer (expr.Binary op left right at) = None
name_layer (expr.Cond test yes' no' at) = None

abbrev pub label_or_name : Option (List ℕ) → Expr → Option (List ℕ)
label_or_name (Some label) e = Some label
label_or_name None e = name_layer (out-Expr e)

-- The name that a point has by itself: its label, or the name that its expression is. Other points are named by their
-- place, when the walk comes to them.
abbrev pub own_name : Member → Option (List ℕ)
own_name (members.Point p) = label_or_name p.label p.expr
own_name (members.Opt option) = None
own_name (members.Cross c) = None

abbrev pub with_own : Option (List ℕ) → Pairs (Unit {0}) → Pairs (Unit {0})
with_own None names = names
with_own (Some name) names = with_name names name tt

-- the names that the points among these members have by themselves, behind others
unfoldable pub points_named : Pairs (Unit {0}) → List Member → Pairs (Unit {0})
points_named names [] = names
points_named names (m ∷ ms) = points_named (with_own (own_name m) names) ms

-- ---- what a name is to a cross

-- What stands around a cross: the items before it with their names, the names that the points of its whole group have by
-- themselves, and the names of the instance's formals and of the design.
pub record Around : Type 0 where
  pub items : List ItemInfo
  pub names : Pairs What
  pub points : Pairs (Unit {0})
  pub formals : Pairs What
  pub design : Pairs What

abbrev pub around : List ItemInfo → Pairs What → Pairs (Unit {0}) → Pairs What → Pairs What → Around
around items names points formals design = record { items = items; names = names; points = points; formals = formals; design = design }

abbrev pub is_point_at : Option ItemInfo → Bool
is_point_at None = false
is_point_at (Some item) = is_point item.shape

-- an item that is a point: crosses aren't crossed
abbrev pub item_axis : List ItemInfo → ℕ → Option Axis
item_axis items index = if is_point_at (slice_get items index) then Some (axis.Item index) else None

-- the place of an item among those of the instance
abbrev pub item_index : What → Option ℕ
item_index (what.Type enumeration) = None
item_index what.Constant = None
item_index (what.Variable enumeration) = None
item_index (what.Group text group) = None
item_index what.Instance = None
item_index (what.Formal by_ref enumeration) = None
item_index (what.Item index) = Some index
item_index what.Bin = None

-- a formal that stands for a variable; an argument of `sample` and an `input` formal don't
abbrev pub is_ref : What → Bool
is_ref (what.Type enumeration) = false
is_ref what.Constant = false
is_ref (what.Variable enumeration) = false
is_ref (what.Group text group) = false
is_ref what.Instance = false
is_ref (what.Formal by_ref enumeration) = by_ref
is_ref (what.Item index) = false
is_ref what.Bin = false

abbrev pub is_variable : What → Bool
is_variable (what.Type enumeration) = false
is_variable what.Constant = false
is_variable (what.Variable enumeration) = true
is_variable (what.Group text group) = false
is_variable what.Instance = false
is_variable (what.Formal by_ref enumeration) = false
is_variable (what.Item index) = false
is_variable what.Bin = false

abbrev pub is_some_variable : Option What → Bool
is_some_variable None = false
is_some_variable (Some found) = is_variable found

-- a signal, also by a `ref` formal; a formal or an argument of `sample` hides a signal of its name
abbrev pub is_signal : (formal design : Option What) → Bool
is_signal None design = is_some_variable design
is_signal (Some formal) design = is_ref formal

-- an implicit point of a signal (19.6), but not where a point behind the cross has the name
abbrev pub signal_axis : (is_later signal : Bool) → List ℕ → Option Axis
signal_axis is_later signal name = if is_later then None else (if signal then Some (axis.Implicit name) else None)

abbrev pub indexed_axis : List ItemInfo → Option ℕ → Option Axis
indexed_axis items None = None
indexed_axis items (Some index) = item_axis items index

-- what a name is to a cross, where some item has it or none
abbrev pub axis_of : Around → Option What → List ℕ → Option Axis
axis_of around (Some item) name = indexed_axis around.items (item_index item)
axis_of around None name = signal_axis (is_some (meaning_of around.points name)) (is_signal (meaning_of around.formals name) (meaning_of around.design name)) name

-- ---- the points of a cross

abbrev pub known_axis : Option Axis → ℕ → Result Axis Refusal
known_axis None at = Err (kind.UnknownPoint, at)
known_axis (Some axis) at = Ok axis

abbrev pub with_axis : List ℕ → Axis → Named → Named
with_axis name axis s = record { seen = with_name s.seen name tt; axes = s.axes ++ axis ∷ [] }

-- one name more, which stands once
unfoldable pub axis_added : Around → ℕ → List ℕ → Named → Result Named Refusal
axis_added around at name s = do
  _ ← needs (not (is_some (meaning_of s.seen name))) kind.UnknownPoint at
  axis ← known_axis (axis_of around (meaning_of around.names name) name) at
  Ok (with_axis name axis s)

abbrev pub no_axes : Named
no_axes = record { seen = []; axes = [] }

unfoldable pub axes_walked : Around → ℕ → List (List ℕ) → Result Named Refusal
axes_walked around at names = each (axis_added around at) names no_axes

-- the points that a cross names, at `at`: 16 at most
unfoldable pub axes_named : Around → List (List ℕ) → ℕ → Result (List Axis) Refusal
axes_named around names at = do
  named ← axes_walked around at names
  _ ← needs (nat_le (length named.axes) most_points) kind.TooManyPoints at
  Ok named.axes

-- ---- products

-- the numbers of coverage bins of the points at these indexes: they have 1,048,576 products at most
unfoldable pub sizes_fit : List ItemInfo → List ℕ → ℕ → Result (List ℕ) Refusal
sizes_fit items axes at = do
  _ ← needs (nat_le (product_of (sizes_of items axes)) most_products) kind.TooManyProducts at
  Ok (sizes_of items axes)
