-- The points of an instance (IEEE 1800-2017, 19.5).
use Rattle.std.specs.Prelude.{ℕ, List, [], ◌++◌, map, codes, nat_eq, Option, Some, None, is_some, Result, Ok}
use Rattle.std.specs.Fmt.{decimal}
use Rattle.name_map.specs.Names.{meaning_of, with_names}
use Rattle.cov_tree.specs.declared.expr.Expr.{Expr}
use Rattle.cov_tree.specs.declared.expr.Expr.TheViews.{out-Expr}
use Rattle.cov_tree.specs.declared.expr.Expr.TheOpen as expr
use Rattle.cov_tree.specs.declared.expr.Expr.TheOpen.{Expr-F}
use Rattle.cov_tree.specs.declared.groups.PointDecl.{PointDecl}
use Rattle.const_eval.specs.Terms.{typ_of}
use Rattle.cov_options.specs.declared.values.Level.TheVariants as levels
use Rattle.const_eval.specs.Binding.{has_width}
use Rattle.design_data.specs.declared.infos.ItemInfo.{ItemInfo}
use Rattle.design_data.specs.declared.infos.ItemShape.TheVariants.{Point}
use Rattle.elab_base.specs.declared.fault.ElabKind.TheVariants as kind
use Rattle.elab_base.specs.Gives.{Refusal, ◌>>=◌, needs}
use Rattle.elab_base.specs.Steps.{unused, bound_in, guard_in}
use Rattle.elab_decls.specs.declared.outside.Outside.{Outside}
use Rattle.elab_decls.specs.Options.{options_set, point_defaults, remarks_of}
use Rattle.elab_values.specs.declared.domain.Domain.{Domain}
use Rattle.elab_values.specs.declared.made.ItemDecls.{ItemDecls}
use Rattle.elab_values.specs.declared.made.PointBins.{PointBins}
use Rattle.elab_values.specs.declared.made.Settings.{Settings}
use Rattle.elab_points.specs.Left.{bins_of_point}
use Rattle.elab_members.specs.declared.counts.Counts.{Counts}
use Rattle.elab_members.specs.declared.items.Items.{Items}
use Rattle.elab_members.specs.declared.items.Inside.{Inside}
use Rattle.elab_members.specs.declared.points.Head.{Head}
use Rattle.elab_members.specs.Counting.{bins_counted}
use Rattle.elab_members.specs.Domains.{domain_of_point}
use Rattle.elab_members.specs.Items.{has_room, with_item, places_from}

-- `point_K`
abbrev pub numbered_name : ℕ → List ℕ
numbered_name k = codes "point_" ++ decimal k

-- the name that an expression is, or else the place in the group
abbrev pub named_layer : {A : Type 0} → ℕ → Expr-F A → List ℕ
named_layer k (expr.Num lit at) = numbered_name k
named_layer k (expr.Name name at) = name
named_layer k (expr.Bit name index at) = numbered_name k
named_layer k (expr.Part name high low at) = numbered_name k
named_layer k (expr.Concat parts at) = numbered_name k
named_layer k (expr.Unary op arg at) = numbered_name k
named_layer k (expr.Binary op left right at) = numbered_name k
named_layer k (expr.Cond test yes' no' at) = numbered_name k

abbrev pub label_or : Option (List ℕ) → ℕ → Expr → List ℕ
label_or (Some label) k e = label
label_or None k e = named_layer k (out-Expr e)

-- the name of a point that has so many items before it
unfoldable pub point_name : PointDecl → ℕ → List ℕ
point_name p k = label_or p.label k p.expr

-- a point, whose bins aren't numbered yet
abbrev pub point_item : Head → PointBins → ItemInfo
point_item head found = record {
  name = head.name;
  weight = head.options.weight;
  type_weight = head.options.type_weight;
  goal = head.options.goal;
  at_least = head.options.at_least;
  remarks = remarks_of head.options;
  guard = head.guard;
  shape = Point head.expr;
  first_bin = 0;
  bins = map (λ made. made.bin) found.bins;
  ignored = found.ignored;
  illegal = found.illegal;
}

-- what a cross has to know of a point's declarations
abbrev pub point_decls : Domain → PointBins → ItemDecls
point_decls domain found = record {
  names = with_names [] (places_from 0 found.names);
  from = map (λ made. made.declared) found.bins;
  domain = Some domain;
}

unfoldable pub with_point : Head → Domain → PointBins → Counts → Items → Items
with_point head domain found counts s = with_item (point_item head found) (point_decls domain found) counts s

-- The expression, the guard and the options of a point; each point has 1 to 64 bits. No text reaches TooWide here, since
-- what is bound has so many.
unfoldable pub head_of : Outside → Inside → List ℕ → PointDecl → Result Head Refusal
head_of outside inside name p = do
  expr ← bound_in outside.scope p.expr
  guard ← guard_in outside.scope p.guard
  options ← options_set levels.Point outside.scope p.options (point_defaults inside.options)
  _ ← needs (has_width (typ_of expr).width) kind.TooWide p.at
  Ok (record { name = name; expr = expr; guard = guard; options = options })

-- What the bins of a point depend on besides their declarations (19.5.1, 19.7): the greatest number of automatic bins,
-- whether the group's bins are distributed first, and whether a cross of the group has `intersect` on the point.
abbrev pub settings_of : Inside → Head → Settings
settings_of inside head = record {
  auto_bin_max = head.options.auto_bin_max;
  distribute_first = nat_eq inside.options.type_distribute_first 1;
  intersected = is_some (meaning_of inside.intersected head.name);
}

-- the bins of a point with these numbers
unfoldable pub bins_headed : Outside → Inside → Domain → Head → PointDecl → Items → Result Items Refusal
bins_headed outside inside domain head p s = do
  found ← bins_of_point outside.scope domain head.name (settings_of inside head) p.bins p.at
  counts ← bins_counted found.bins s.counts
  Ok (with_point head domain found counts s)

abbrev pub headed_point : Outside → Inside → Head → PointDecl → Items → Result Items Refusal
headed_point outside inside head p s = bins_headed outside inside (domain_of_point outside inside.names p.expr (typ_of head.expr)) head p s

unfoldable pub named_point : Outside → Inside → List ℕ → PointDecl → Items → Result Items Refusal
named_point outside inside name p s = do
  _ ← unused s.names name p.at
  _ ← has_room s.counts p.at
  head ← head_of outside inside name p
  headed_point outside inside head p s
