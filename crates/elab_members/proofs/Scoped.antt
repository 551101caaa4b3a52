-- The scope of an instance on the way is that of its items so far, each name once.
use Rattle.std.proofs.Common.{◌≡◌, ◌∙◌, ℕ, ◌+◌, List, [], ◌∷◌, ◌++◌, length, refl, sym, ap, subst, Bool, true, false, cond, None, arith, Ok}
use Rattle.std.specs.Prelude.{not, is_some}
use Rattle.std.specs.List.{AllByRecursion}
use Rattle.name_map.specs.Names.{Pairs, meaning_of, with_name}
use Rattle.cov_tree.specs.declared.groups.Member.{Member}
use Rattle.cov_tree.specs.declared.groups.Member.TheVariants as members
use Rattle.cov_tree.specs.declared.groups.PointDecl.{PointDecl}
use Rattle.cov_tree.specs.declared.groups.CrossDecl.{CrossDecl}
use Rattle.const_eval.specs.Scopes.{Levels}
use Rattle.const_eval.specs.Terms.{typ_of}
use Rattle.const_eval.specs.Binding.{has_width}
use Rattle.cov_options.specs.declared.values.Level.TheVariants as levels
use Rattle.design_data.specs.declared.infos.ItemInfo.{ItemInfo}
use Rattle.elab_base.specs.declared.fault.ElabKind.TheVariants as kind
use Rattle.elab_base.specs.declared.names.What.{What}
use Rattle.elab_base.specs.declared.names.What.TheVariants as what
use Rattle.elab_base.specs.Gives.{needs, each_at}
use Rattle.elab_base.specs.Steps.{unused, bound_in, guard_in}
use Rattle.elab_base.proofs.Keeps.{bind_ok, ok_is, each_keeps, needs_ok}
use Rattle.elab_decls.specs.declared.outside.Outside.{Outside}
use Rattle.elab_decls.specs.Options.{options_set, point_defaults, cross_defaults}
use Rattle.elab_decls.specs.Laws.{AreDistinct}
use Rattle.elab_decls.proofs.Lawful.{with_distinct}
use Rattle.elab_values.specs.declared.domain.Domain.{Domain}
use Rattle.elab_values.specs.declared.made.ItemDecls.{ItemDecls}
use Rattle.elab_points.specs.Left.{bins_of_point}
use Rattle.elab_crosses.specs.declared.axes.Axis.{Axis}
use Rattle.elab_crosses.specs.declared.axes.Axis.TheVariants as axis
use Rattle.elab_crosses.specs.Axes.{axes_named, sizes_fit}
use Rattle.elab_crosses.specs.Selections.{crossed}
use Rattle.elab_crosses.specs.Removal.{bins_of_cross}
use Rattle.elab_members.specs.declared.counts.Counts.{Counts}
use Rattle.elab_members.specs.declared.items.Items.{Items}
use Rattle.elab_members.specs.declared.items.Inside.{Inside}
use Rattle.elab_members.specs.declared.points.Head.{Head}
use Rattle.elab_members.specs.declared.crosses.CrossHead.{CrossHead}
use Rattle.elab_members.specs.Counting.{bins_counted}
use Rattle.elab_members.specs.Domains.{domain_of_point}
use Rattle.elab_members.specs.Items.{no_items, has_room, with_item}
use Rattle.elab_members.specs.Points.{point_name, settings_of, with_point, head_of, bins_headed, named_point}
use Rattle.elab_members.specs.CrossNames.{around_cross, name_of_cross}
use Rattle.elab_members.specs.Crosses.{implicit_decl, Placed, placed, axis_placed, axes_placed, cross_head, with_cross, headed_cross, bins_crossed, named_cross, placed_cross, cross}
use Rattle.elab_members.specs.Members.{member, members_walked}
use Rattle.elab_members.specs.Scopes.{scope_from}
use Rattle.elab_members.proofs.Implied.{Differs, Apart, still_new, axes_apart, name_is_new}

-- ---- one item more

other : (b : Bool) (pairs more : Pairs What) → not b ≡ true → cond b pairs more ≡ more
other true pairs more e = absurd cc
other false pairs more e = refl

-- a name that isn't there stands last
added_last : (pairs : Pairs What) (name : List ℕ) (m : What) → not (is_some (meaning_of pairs name)) ≡ true → with_name pairs name m ≡ pairs ++ (name, m) ∷ []
added_last pairs name m e = other (is_some (meaning_of pairs name)) pairs (pairs ++ (name, m) ∷ []) e

scope_push : (k : ℕ) (items : List ItemInfo) (item : ItemInfo) → scope_from k (items ++ item ∷ []) ≡ scope_from k items ++ (item.name, what.Item (k + length items)) ∷ []
scope_push k [] item = let same : k ≡ k + 0 = omega arith in ap (λ (n : ℕ). (item.name, what.Item n) ∷ []) same
scope_push k (x ∷ items) item =
    let same : (k + 1) + length items ≡ k + length (x ∷ items) = omega arith in
    ap (λ (ps : Pairs What). (x.name, what.Item k) ∷ ps) (scope_push (k + 1) items item ∙ ap (λ (n : ℕ). scope_from (k + 1) items ++ (item.name, what.Item n) ∷ []) same)

-- the scope on the way is that of the items so far, each name once
pub record IsScope (s : Items) : Type 0 where
  pub names : s.names ≡ scope_from 0 s.items
  pub distinct : AreDistinct s.names

item_added : (s : Items) (item : ItemInfo) (made : ItemDecls) (counts : Counts) → not (is_some (meaning_of s.names item.name)) ≡ true → IsScope s → IsScope (with_item item made counts s)
unfolding with_item
item_added s item made counts new h =
    let from_zero : length s.items ≡ 0 + length s.items = omega arith in
    let last = ap (λ (n : ℕ). scope_from 0 s.items ++ (item.name, what.Item n) ∷ []) from_zero ∙ sym (scope_push 0 s.items item) in
    record {
      names = added_last s.names item.name (what.Item (length s.items)) new ∙ (ap (λ (ps : Pairs What). ps ++ (item.name, what.Item (length s.items)) ∷ []) h.names ∙ last);
      distinct = with_distinct s.names item.name (what.Item (length s.items)) h.distinct;
    }

-- ---- points

head_name : (outside : Outside) (inside : Inside) (name : List ℕ) (p : PointDecl) (head : Head) → head_of outside inside name p ≡ Ok head → name ≡ head.name
unfolding head_of
head_name outside inside name p head e =
    let x = bind_ok (bound_in outside.scope p.expr) _ head e in
    let g = bind_ok (guard_in outside.scope p.guard) _ head x.2 in
    let o = bind_ok (options_set levels.Point outside.scope p.options (point_defaults inside.options)) _ head g.2 in
    let w = bind_ok (needs (has_width (typ_of x.0).width) kind.TooWide p.at) _ head o.2 in
    ap (λ (h : Head). h.name) (ok_is _ head w.2)

headed_scope : (outside : Outside) (inside : Inside) (domain : Domain) (head : Head) (p : PointDecl) (s t : Items) → bins_headed outside inside domain head p s ≡ Ok t → not (is_some (meaning_of s.names head.name)) ≡ true → IsScope s → IsScope t
unfolding bins_headed with_point
headed_scope outside inside domain head p s t e new h =
    let b = bind_ok (bins_of_point outside.scope domain head.name (settings_of inside head) p.bins p.at) _ t e in
    let c = bind_ok (bins_counted b.0.bins s.counts) _ t b.2 in
    subst IsScope (ok_is _ t c.2) (item_added s _ _ c.0 new h)

named_scope : (outside : Outside) (inside : Inside) (name : List ℕ) (p : PointDecl) (s t : Items) → named_point outside inside name p s ≡ Ok t → IsScope s → IsScope t
unfolding named_point unused
named_scope outside inside name p s t e h =
    let u = bind_ok (needs (not (is_some (meaning_of s.names name))) kind.DuplicateName p.at) _ t e in
    let n = bind_ok (has_room s.counts p.at) _ t u.2 in
    let x = bind_ok (head_of outside inside name p) _ t n.2 in
    let new = needs_ok (not (is_some (meaning_of s.names name))) kind.DuplicateName p.at u.0 u.1 in
    let same = head_name outside inside name p x.0 x.1 in
    headed_scope outside inside (domain_of_point outside inside.names p.expr (typ_of x.0.expr)) x.0 p s t x.2 (subst (λ (text : List ℕ). not (is_some (meaning_of s.names text)) ≡ true) same new) h

-- ---- a name that is new stays so behind implicit points of other names

point_names : (outside : Outside) (inside : Inside) (domain : Domain) (head : Head) (p : PointDecl) (s t : Items) → bins_headed outside inside domain head p s ≡ Ok t → with_name s.names head.name (what.Item (length s.items)) ≡ t.names
unfolding bins_headed with_point with_item
point_names outside inside domain head p s t e =
    let b = bind_ok (bins_of_point outside.scope domain head.name (settings_of inside head) p.bins p.at) _ t e in
    let c = bind_ok (bins_counted b.0.bins s.counts) _ t b.2 in
    ap (λ (u : Items). u.names) (ok_is _ t c.2)

named_new : (outside : Outside) (inside : Inside) (other name : List ℕ) (p : PointDecl) (s t : Items) → named_point outside inside other p s ≡ Ok t → Differs name other → meaning_of s.names name ≡ None → meaning_of t.names name ≡ None
unfolding named_point
named_new outside inside other name p s t e differs new =
    let u = bind_ok (unused s.names other p.at) _ t e in
    let n = bind_ok (has_room s.counts p.at) _ t u.2 in
    let x = bind_ok (head_of outside inside other p) _ t n.2 in
    let same = head_name outside inside other p x.0 x.1 in
    let names = point_names outside inside (domain_of_point outside inside.names p.expr (typ_of x.0.expr)) x.0 p s t x.2 in
    subst (λ (ns : Pairs What). meaning_of ns name ≡ None) names (still_new s.names x.0.name name (what.Item (length s.items)) new (subst (λ (text : List ℕ). Differs name text) same differs))

axis_new : (outside : Outside) (inside : Inside) (at : ℕ) (name : List ℕ) (a : Axis) (p q : Placed) → axis_placed outside inside at a p ≡ Ok q → Apart name a → meaning_of p.items.names name ≡ None → meaning_of q.items.names name ≡ None
unfolding axis_placed
axis_new outside inside at name (axis.Item index) p q e apart new = subst (λ (r : Placed). meaning_of r.items.names name ≡ None) (ok_is (placed p.items (p.axes ++ index ∷ [])) q e) new
axis_new outside inside at name (axis.Implicit other) p q e apart new =
    let i = bind_ok (named_point outside inside other (implicit_decl other at) p.items) _ q e in
    subst (λ (r : Placed). meaning_of r.items.names name ≡ None) (ok_is _ q i.2) (named_new outside inside other name (implicit_decl other at) p.items i.0 i.1 apart new)

axes_new : (outside : Outside) (inside : Inside) (at k : ℕ) (name : List ℕ) (axes : List Axis) (p q : Placed) → each_at (λ i. axis_placed outside inside at) k axes p ≡ Ok q → AllByRecursion (Apart name) axes → meaning_of p.items.names name ≡ None → meaning_of q.items.names name ≡ None
unfolding each_at
axes_new outside inside at k name [] p q e apart new = subst (λ (r : Placed). meaning_of r.items.names name ≡ None) (ok_is p q e) new
axes_new outside inside at k name (a ∷ axes) p q e apart new =
    let b = bind_ok (axis_placed outside inside at a p) (each_at (λ i. axis_placed outside inside at) (k + 1) axes) q e in
    axes_new outside inside at (k + 1) name axes b.0 q b.2 apart.1 (axis_new outside inside at name a p b.0 b.1 apart.0 new)

-- ---- crosses

PlacedScope : Placed → Type 0
PlacedScope p = IsScope p.items

axis_scope : (outside : Outside) (inside : Inside) (at : ℕ) (a : Axis) (p q : Placed) → axis_placed outside inside at a p ≡ Ok q → PlacedScope p → PlacedScope q
unfolding axis_placed PlacedScope
axis_scope outside inside at (axis.Item index) p q e h = subst (λ (r : Placed). IsScope r.items) (ok_is (placed p.items (p.axes ++ index ∷ [])) q e) h
axis_scope outside inside at (axis.Implicit name) p q e h =
    let i = bind_ok (named_point outside inside name (implicit_decl name at) p.items) _ q e in
    subst (λ (r : Placed). IsScope r.items) (ok_is _ q i.2) (named_scope outside inside name (implicit_decl name at) p.items i.0 i.1 h)

cross_head_name : (scope : Levels) (inside : Inside) (name : List ℕ) (c : CrossDecl) (head : CrossHead) → cross_head scope inside name c ≡ Ok head → name ≡ head.name
unfolding cross_head
cross_head_name scope inside name c head e =
    let g = bind_ok (guard_in scope c.guard) _ head e in
    let o = bind_ok (options_set levels.Cross scope c.options (cross_defaults inside.options)) _ head g.2 in
    ap (λ (h : CrossHead). h.name) (ok_is _ head o.2)

headed_cross_scope : (scope : Levels) (head : CrossHead) (c : CrossDecl) (axes sizes : List ℕ) (s t : Items) → headed_cross scope head c axes sizes s ≡ Ok t → not (is_some (meaning_of s.names head.name)) ≡ true → IsScope s → IsScope t
unfolding headed_cross with_cross
headed_cross_scope scope head c axes sizes s t e new h =
    let b = bind_ok (bins_of_cross scope (crossed c.points axes s.items s.decls) sizes c.bins c.at) _ t e in
    let n = bind_ok (bins_counted b.0 s.counts) _ t b.2 in
    subst IsScope (ok_is _ t n.2) (item_added s _ _ n.0 new h)

named_cross_scope : (scope : Levels) (inside : Inside) (name : List ℕ) (c : CrossDecl) (axes : List ℕ) (s t : Items) → named_cross scope inside name c axes s ≡ Ok t → meaning_of s.names name ≡ None → IsScope s → IsScope t
unfolding named_cross bins_crossed
named_cross_scope scope inside name c axes s t e absent h =
    let z = bind_ok (sizes_fit s.items axes c.at) _ t e in
    let n = bind_ok (has_room s.counts c.at) _ t z.2 in
    let x = bind_ok (cross_head scope inside name c) _ t n.2 in
    let new : not (is_some (meaning_of s.names name)) ≡ true = rw absent refl in
    let same = cross_head_name scope inside name c x.0 x.1 in
    headed_cross_scope scope x.0 c axes z.0 s t x.2 (subst (λ (text : List ℕ). not (is_some (meaning_of s.names text)) ≡ true) same new) h

cross_scope : (outside : Outside) (inside : Inside) (c : CrossDecl) (s t : Items) → cross outside inside c s ≡ Ok t → IsScope s → IsScope t
unfolding cross placed_cross axes_placed PlacedScope
cross_scope outside inside c s t e h =
    let around = around_cross outside inside s in
    let l = bind_ok (name_of_cross around c) _ t e in
    let a = bind_ok (axes_named around c.points c.at) _ t l.2 in
    let p = bind_ok (axes_placed outside inside c.at a.0 s) _ t a.2 in
    let all = each_keeps (λ k. axis_placed outside inside c.at) PlacedScope (λ k a p q e h. axis_scope outside inside c.at a p q e h) 0 a.0 (placed s []) p.0 p.1 h in
    let new = name_is_new around c l.0 l.1 in
    let apart = axes_apart around c.points c.at l.0 a.0 a.1 new.1 in
    let absent = axes_new outside inside c.at 0 l.0 a.0 (placed s []) p.0 p.1 apart new.0 in
    named_cross_scope outside.scope inside l.0 c p.0.axes p.0.items t p.2 absent all

-- ---- members

member_scope : (outside : Outside) (inside : Inside) (m : Member) (s t : Items) → member outside inside m s ≡ Ok t → IsScope s → IsScope t
member_scope outside inside (members.Point p) s t e h = named_scope outside inside (point_name p (length s.items)) p s t e h
member_scope outside inside (members.Opt o) s t e h = subst IsScope (ok_is s t e) h
member_scope outside inside (members.Cross c) s t e h = cross_scope outside inside c s t e h

pub members_scope : (outside : Outside) (inside : Inside) (start : Counts) (ms : List Member) (t : Items) → members_walked outside inside start ms ≡ Ok t → IsScope t
unfolding members_walked
members_scope outside inside start ms t e =
    each_keeps (λ k. member outside inside) IsScope (λ k m s u f h. member_scope outside inside m s u f h) 0 ms (no_items start) t e (record { names = refl; distinct = tt })
