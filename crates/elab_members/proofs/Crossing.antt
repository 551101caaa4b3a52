-- What is known where a point or a cross is made: no item has more bins than it may have, and a cross has no more names
-- and products than it may have.
use Rattle.std.proofs.Common.{◌≡◌, ℕ, ◌≤◌, List, [], ◌∷◌, ◌++◌, length, sym, subst, arith, Ok}
use Rattle.std.proofs.lemmas.List.Elements.{All-push, All-nil}
use Rattle.cov_ground.specs.Limits.{most_bins, most_points, most_products}
use Rattle.cov_tree.specs.declared.groups.PointDecl.{PointDecl}
use Rattle.cov_tree.specs.declared.groups.CrossDecl.{CrossDecl}
use Rattle.cov_tree.specs.declared.groups.Member.{Member}
use Rattle.cov_tree.specs.declared.groups.Member.TheVariants as members
use Rattle.const_eval.specs.Scopes.{Levels}
use Rattle.const_eval.specs.Terms.{typ_of}
use Rattle.cross_select.specs.Products.{product_of}
use Rattle.design_data.specs.declared.infos.ItemInfo.{ItemInfo}
use Rattle.design_data.specs.Tested.{HaveFewBins}
use Rattle.elab_base.specs.Steps.{unused}
use Rattle.elab_base.proofs.Keeps.{bind_ok, ok_is, each_keeps}
use Rattle.elab_decls.specs.declared.outside.Outside.{Outside}
use Rattle.elab_values.specs.declared.domain.Domain.{Domain}
use Rattle.elab_values.specs.declared.made.ItemDecls.{ItemDecls}
use Rattle.elab_points.specs.Left.{bins_of_point}
use Rattle.elab_points.proofs.Kept.{few_left}
use Rattle.elab_crosses.specs.declared.axes.Axis.{Axis}
use Rattle.elab_crosses.specs.declared.axes.Axis.TheVariants as axis
use Rattle.elab_crosses.specs.Axes.{axes_named, sizes_fit}
use Rattle.elab_crosses.specs.Selections.{crossed}
use Rattle.elab_crosses.specs.Removal.{bins_of_cross}
use Rattle.elab_crosses.proofs.Crossing.{cross_axes, cross_products}
use Rattle.elab_crosses.proofs.Owed.{cross_few}
use Rattle.elab_members.specs.declared.counts.Counts.{Counts}
use Rattle.elab_members.specs.declared.items.Items.{Items}
use Rattle.elab_members.specs.declared.items.Inside.{Inside}
use Rattle.elab_members.specs.declared.points.Head.{Head}
use Rattle.elab_members.specs.declared.crosses.CrossHead.{CrossHead}
use Rattle.elab_members.specs.Counting.{bins_counted}
use Rattle.elab_members.specs.Domains.{domain_of_point}
use Rattle.elab_members.specs.Items.{no_items, has_room, with_item}
use Rattle.elab_members.specs.Points.{point_name, point_item, point_decls, settings_of, with_point, head_of, bins_headed, named_point}
use Rattle.elab_members.specs.CrossNames.{around_cross, name_of_cross}
use Rattle.elab_members.specs.Crosses.{implicit_decl, Placed, placed, axis_placed, axes_placed, cross_head, cross_item, cross_decls, with_cross, headed_cross, bins_crossed, named_cross, placed_cross, cross}
use Rattle.elab_members.specs.Members.{member}
use Rattle.elab_members.proofs.Counted.{length-infos}

-- ---- the names and the products of a cross

pub few_names : (outside : Outside) (inside : Inside) (c : CrossDecl) (s : Items) (axes : List Axis) → axes_named (around_cross outside inside s) c.points c.at ≡ Ok axes → length c.points ≤ most_points
few_names outside inside c s axes e =
    let h = cross_axes (around_cross outside inside s) c.points c.at axes e in
    let same = h.0 in
    let few = h.1 in
    omega (arith, same, few)

pub few_products : (items : List ItemInfo) (axes : List ℕ) (at : ℕ) (sizes : List ℕ) → sizes_fit items axes at ≡ Ok sizes → product_of sizes ≤ most_products
few_products items axes at sizes e =
    let h = cross_products items axes at sizes e in
    subst (λ (ns : List ℕ). product_of ns ≤ most_products) (sym h.0) h.1

-- ---- the bins of items

pub none_few : (counts : Counts) (s : Items) → s ≡ no_items counts → HaveFewBins s.items
none_few counts s is = subst (λ (t : Items). HaveFewBins t.items) (sym is) (All-nil _)

item_few : (item : ItemInfo) (decls : ItemDecls) (counts : Counts) (s : Items) → length item.bins ≤ most_bins → HaveFewBins s.items → HaveFewBins (with_item item decls counts s).items
unfolding with_item
item_few item decls counts s few h = All-push (λ (x : ItemInfo). length x.bins ≤ most_bins) s.items item h few

headed_few : (outside : Outside) (inside : Inside) (domain : Domain) (head : Head) (p : PointDecl) (s t : Items) → bins_headed outside inside domain head p s ≡ Ok t → HaveFewBins s.items → HaveFewBins t.items
unfolding bins_headed with_point
headed_few outside inside domain head p s t e h =
    let b = bind_ok (bins_of_point outside.scope domain head.name (settings_of inside head) p.bins p.at) _ t e in
    let c = bind_ok (bins_counted b.0.bins s.counts) _ t b.2 in
    let few = (few_left outside.scope domain head.name (settings_of inside head) p.bins p.at b.0 b.1).few in
    let same = length-infos b.0.bins in
    subst (λ (u : Items). HaveFewBins u.items) (ok_is _ t c.2) (item_few (point_item head b.0) (point_decls domain b.0) c.0 s (omega (arith, few, same)) h)

point_few : (outside : Outside) (inside : Inside) (name : List ℕ) (p : PointDecl) (s t : Items) → named_point outside inside name p s ≡ Ok t → HaveFewBins s.items → HaveFewBins t.items
unfolding named_point
point_few outside inside name p s t e h =
    let u = bind_ok (unused s.names name p.at) _ t e in
    let n = bind_ok (has_room s.counts p.at) _ t u.2 in
    let x = bind_ok (head_of outside inside name p) _ t n.2 in
    headed_few outside inside (domain_of_point outside inside.names p.expr (typ_of x.0.expr)) x.0 p s t x.2 h

axis_few : (outside : Outside) (inside : Inside) (at : ℕ) (a : Axis) (p q : Placed) → axis_placed outside inside at a p ≡ Ok q → HaveFewBins p.items.items → HaveFewBins q.items.items
unfolding axis_placed
axis_few outside inside at (axis.Item index) p q e h = subst (λ (u : Placed). HaveFewBins u.items.items) (ok_is (placed p.items (p.axes ++ index ∷ [])) q e) h
axis_few outside inside at (axis.Implicit name) p q e h =
    let i = bind_ok (named_point outside inside name (implicit_decl name at) p.items) _ q e in
    subst (λ (u : Placed). HaveFewBins u.items.items) (ok_is _ q i.2) (point_few outside inside name (implicit_decl name at) p.items i.0 i.1 h)

axes_few : (outside : Outside) (inside : Inside) (at : ℕ) (axes : List Axis) (s : Items) (q : Placed) → axes_placed outside inside at axes s ≡ Ok q → HaveFewBins s.items → HaveFewBins q.items.items
unfolding axes_placed
axes_few outside inside at axes s q e h =
    each_keeps (λ k. axis_placed outside inside at) (λ (p : Placed). HaveFewBins p.items.items) (λ k a p r. axis_few outside inside at a p r) 0 axes (placed s []) q e h

pub placed_few : (outside : Outside) (inside : Inside) (at : ℕ) (axes : List Axis) (s t : Items) (indexes : List ℕ) → axes_placed outside inside at axes s ≡ Ok (placed t indexes) → HaveFewBins s.items → HaveFewBins t.items
placed_few outside inside at axes s t indexes e h = axes_few outside inside at axes s (placed t indexes) e h

headed_cross_few : (scope : Levels) (head : CrossHead) (c : CrossDecl) (axes sizes : List ℕ) (s t : Items) → headed_cross scope head c axes sizes s ≡ Ok t → HaveFewBins s.items → HaveFewBins t.items
unfolding headed_cross with_cross
headed_cross_few scope head c axes sizes s t e h =
    let b = bind_ok (bins_of_cross scope (crossed c.points axes s.items s.decls) sizes c.bins c.at) _ t e in
    let n = bind_ok (bins_counted b.0 s.counts) _ t b.2 in
    let few = cross_few scope (crossed c.points axes s.items s.decls) sizes c.bins c.at b.0 b.1 in
    let same = length-infos b.0 in
    subst (λ (u : Items). HaveFewBins u.items) (ok_is _ t n.2) (item_few (cross_item head axes b.0) cross_decls n.0 s (omega (arith, few, same)) h)

named_cross_few : (scope : Levels) (inside : Inside) (name : List ℕ) (c : CrossDecl) (axes : List ℕ) (s t : Items) → named_cross scope inside name c axes s ≡ Ok t → HaveFewBins s.items → HaveFewBins t.items
unfolding named_cross bins_crossed
named_cross_few scope inside name c axes s t e h =
    let z = bind_ok (sizes_fit s.items axes c.at) _ t e in
    let n = bind_ok (has_room s.counts c.at) _ t z.2 in
    let x = bind_ok (cross_head scope inside name c) _ t n.2 in
    headed_cross_few scope x.0 c axes z.0 s t x.2 h

cross_keeps_few : (outside : Outside) (inside : Inside) (c : CrossDecl) (s t : Items) → cross outside inside c s ≡ Ok t → HaveFewBins s.items → HaveFewBins t.items
unfolding cross placed_cross
cross_keeps_few outside inside c s t e h =
    let l = bind_ok (name_of_cross (around_cross outside inside s) c) _ t e in
    let a = bind_ok (axes_named (around_cross outside inside s) c.points c.at) _ t l.2 in
    let p = bind_ok (axes_placed outside inside c.at a.0 s) _ t a.2 in
    named_cross_few outside.scope inside l.0 c p.0.axes p.0.items t p.2 (axes_few outside inside c.at a.0 s p.0 p.1 h)

pub member_few : (outside : Outside) (inside : Inside) (m : Member) (s t : Items) → member outside inside m s ≡ Ok t → HaveFewBins s.items → HaveFewBins t.items
member_few outside inside (members.Point p) s t e h = point_few outside inside (point_name p (length s.items)) p s t e h
member_few outside inside (members.Opt o) s t e h = subst (λ (u : Items). HaveFewBins u.items) (ok_is s t e) h
member_few outside inside (members.Cross c) s t e h = cross_keeps_few outside inside c s t e h
