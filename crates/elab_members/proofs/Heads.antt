-- What is known at the head of a point: the ranges of its options.
use Rattle.std.proofs.Common.{◌≡◌, ℕ, List, ap, sym, subst, Ok}
use Rattle.name_map.specs.Names.{Pairs}
use Rattle.cov_tree.specs.declared.groups.Member.{Member}
use Rattle.cov_tree.specs.declared.groups.PointDecl.{PointDecl}
use Rattle.const_eval.specs.Terms.{typ_of}
use Rattle.const_eval.specs.Scopes.{Levels}
use Rattle.const_eval.specs.Binding.{has_width}
use Rattle.cov_options.specs.declared.options.Options.{Options}
use Rattle.cov_options.specs.declared.values.Level.TheVariants as levels
use Rattle.elab_base.specs.declared.fault.ElabKind.TheVariants as kind
use Rattle.elab_base.specs.declared.names.What.{What}
use Rattle.elab_base.specs.Gives.{needs}
use Rattle.elab_base.specs.Steps.{bound_in, guard_in}
use Rattle.elab_base.proofs.Keeps.{bind_ok, ok_is}
use Rattle.elab_decls.specs.declared.outside.Outside.{Outside}
use Rattle.elab_decls.specs.Options.{options_set, group_options, point_defaults}
use Rattle.elab_decls.specs.Invariant.{AreInRange}
use Rattle.elab_decls.proofs.Hits.{options_keep, group_keeps}
use Rattle.elab_values.specs.declared.made.Settings.{Settings}
use Rattle.elab_points.specs.Automatic.{CanHaveBins}
use Rattle.elab_members.specs.declared.items.Inside.{Inside}
use Rattle.elab_members.specs.declared.points.Head.{Head}
use Rattle.elab_members.specs.Points.{settings_of, head_of}
use Rattle.elab_members.specs.Members.{inside_in}

-- ---- options

pub can_have : (inside : Inside) (head : Head) (settings : Settings) → settings ≡ settings_of inside head → AreInRange head.options → CanHaveBins settings
can_have inside head settings is range = subst CanHaveBins (sym is) (record { some = range.1; most = range.2 })

pub head_range : (outside : Outside) (inside : Inside) (name : List ℕ) (p : PointDecl) (head : Head) → head_of outside inside name p ≡ Ok head → AreInRange inside.options → AreInRange head.options
unfolding head_of
head_range outside inside name p head e range =
    let x = bind_ok (bound_in outside.scope p.expr) _ head e in
    let g = bind_ok (guard_in outside.scope p.guard) _ head x.2 in
    let o = bind_ok (options_set levels.Point outside.scope p.options (point_defaults inside.options)) _ head g.2 in
    let n = bind_ok (needs (has_width (typ_of x.0).width) kind.TooWide p.at) _ head o.2 in
    let kept = options_keep levels.Point outside.scope p.options (point_defaults inside.options) o.0 o.1 range in
    subst AreInRange (ap (λ (h : Head). h.options) (ok_is _ head n.2)) kept

pub inside_range : (outer : Levels) (names : Pairs What) (options : Options) (ms : List Member) (inside : Inside) → group_options outer ms ≡ Ok options → inside ≡ inside_in names options ms → AreInRange inside.options
inside_range outer names options ms inside e is = subst (λ (i : Inside). AreInRange i.options) (sym is) (group_keeps outer ms options e)
