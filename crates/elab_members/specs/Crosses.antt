-- The crosses of an instance, and the implicit points of their signals (IEEE 1800-2017, 19.6).
use Rattle.std.specs.Prelude.{ℕ, List, [], ◌∷◌, ◌++◌, length, None, Result, Ok}
use Rattle.cov_tree.specs.Exprs.{named}
use Rattle.cov_tree.specs.declared.groups.PointDecl.{PointDecl}
use Rattle.cov_tree.specs.declared.groups.CrossDecl.{CrossDecl}
use Rattle.const_eval.specs.Scopes.{Levels}
use Rattle.cov_options.specs.declared.values.Level.TheVariants as levels
use Rattle.design_data.specs.declared.infos.ItemInfo.{ItemInfo}
use Rattle.design_data.specs.declared.infos.ItemShape.TheVariants.{Cross}
use Rattle.elab_base.specs.Gives.{Refusal, ◌>>=◌, each}
use Rattle.elab_base.specs.Steps.{guard_in}
use Rattle.elab_decls.specs.declared.outside.Outside.{Outside}
use Rattle.elab_decls.specs.Options.{options_set, cross_defaults, remarks_of}
use Rattle.elab_values.specs.declared.made.ItemDecls.{ItemDecls}
use Rattle.elab_values.specs.declared.made.Made.{Made}
use Rattle.elab_crosses.specs.declared.axes.Axis.{Axis}
use Rattle.elab_crosses.specs.declared.axes.Axis.TheVariants as axis
use Rattle.elab_crosses.specs.Axes.{axes_named, sizes_fit}
use Rattle.elab_crosses.specs.Selections.{crossed}
use Rattle.elab_crosses.specs.Removal.{infos, bins_of_cross}
use Rattle.elab_members.specs.declared.counts.Counts.{Counts}
use Rattle.elab_members.specs.declared.items.Items.{Items}
use Rattle.elab_members.specs.declared.items.Inside.{Inside}
use Rattle.elab_members.specs.declared.crosses.CrossHead.{CrossHead}
use Rattle.elab_members.specs.Counting.{bins_counted}
use Rattle.elab_members.specs.CrossNames.{around_cross, name_of_cross}
use Rattle.elab_members.specs.Items.{has_room, with_item}
use Rattle.elab_members.specs.Points.{named_point}

-- ---- implicit points

-- the point of a signal that a cross names: one of the signal alone, which stands before the cross
abbrev pub implicit_decl : (name : List ℕ) → (at : ℕ) → PointDecl
implicit_decl name at = record { label = None; expr = named name at; guard = None; options = []; bins = []; at = at }

-- items, and the indexes of the points of a cross among them
pub record Placed : Type 0 where
  pub items : Items
  pub axes : List ℕ

abbrev pub placed : Items → List ℕ → Placed
placed items axes = record { items = items; axes = axes }

-- one point of a cross that stands there: an implicit one is made
unfoldable pub axis_placed : Outside → Inside → (at : ℕ) → Axis → Placed → Result Placed Refusal
axis_placed outside inside at (axis.Item index) p = Ok (placed p.items (p.axes ++ index ∷ []))
axis_placed outside inside at (axis.Implicit name) p = do
  items ← named_point outside inside name (implicit_decl name at) p.items
  Ok (placed items (p.axes ++ length p.items.items ∷ []))

unfoldable pub axes_placed : Outside → Inside → (at : ℕ) → List Axis → Items → Result Placed Refusal
axes_placed outside inside at axes s = each (axis_placed outside inside at) axes (placed s [])

-- ---- crosses

-- the guard and the options of a cross
unfoldable pub cross_head : Levels → Inside → List ℕ → CrossDecl → Result CrossHead Refusal
cross_head scope inside name c = do
  guard ← guard_in scope c.guard
  options ← options_set levels.Cross scope c.options (cross_defaults inside.options)
  Ok (record { name = name; guard = guard; options = options })

-- a cross, whose bins aren't numbered yet
abbrev pub cross_item : CrossHead → List ℕ → List Made → ItemInfo
cross_item head axes bins = record {
  name = head.name;
  weight = head.options.weight;
  type_weight = head.options.type_weight;
  goal = head.options.goal;
  at_least = head.options.at_least;
  remarks = remarks_of head.options;
  guard = head.guard;
  shape = Cross axes;
  first_bin = 0;
  bins = infos bins;
  ignored = [];
  illegal = [];
}

-- crosses aren't crossed
abbrev pub cross_decls : ItemDecls
cross_decls = record { names = []; from = []; domain = None }

unfoldable pub with_cross : CrossHead → List ℕ → List Made → Counts → Items → Items
with_cross head axes bins counts s = with_item (cross_item head axes bins) cross_decls counts s

-- the bins of a cross of points with so many coverage bins
unfoldable pub headed_cross : Levels → CrossHead → CrossDecl → (axes sizes : List ℕ) → Items → Result Items Refusal
headed_cross scope head c axes sizes s = do
  bins ← bins_of_cross scope (crossed c.points axes s.items s.decls) sizes c.bins c.at
  counts ← bins_counted bins s.counts
  Ok (with_cross head axes bins counts s)

-- the head of a cross, and then its bins
unfoldable pub bins_crossed : Levels → Inside → List ℕ → CrossDecl → (axes sizes : List ℕ) → Items → Result Items Refusal
bins_crossed scope inside name c axes sizes s = do
  head ← cross_head scope inside name c
  headed_cross scope head c axes sizes s

-- a cross whose implicit points stand before it
unfoldable pub named_cross : Levels → Inside → List ℕ → CrossDecl → List ℕ → Items → Result Items Refusal
named_cross scope inside name c axes s = do
  sizes ← sizes_fit s.items axes c.at
  _ ← has_room s.counts c.at
  bins_crossed scope inside name c axes sizes s

-- a cross of these points, of which implicit ones are made
unfoldable pub placed_cross : Outside → Inside → List ℕ → CrossDecl → List Axis → Items → Result Items Refusal
placed_cross outside inside name c axes s = do
  p ← axes_placed outside inside c.at axes s
  named_cross outside.scope inside name c p.axes p.items

-- a cross: its name comes before its points, as DuplicateName comes before UnknownPoint
unfoldable pub cross : Outside → Inside → CrossDecl → Items → Result Items Refusal
cross outside inside c s = do
  name ← name_of_cross (around_cross outside inside s) c
  axes ← axes_named (around_cross outside inside s) c.points c.at
  placed_cross outside inside name c axes s
