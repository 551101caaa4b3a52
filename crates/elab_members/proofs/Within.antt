-- The items of an instance are within all limits, and are counted.
use Rattle.std.proofs.Common.{◌≡◌, ◌∙◌, ℕ, zero, suc, ◌+◌, ◌<◌, ◌≤◌, List, [], ◌∷◌, ◌++◌, length, map, append-nil, refl, sym, ap, subst, true, arith, Option, Some, Ok}
use Rattle.std.specs.Prelude.{nat_lt, slice_get, IsSomeAnd, IsTrue}
use Rattle.std.specs.List.{AllByRecursion}
use Rattle.std.proofs.lemmas.List.{length_push}
use Rattle.cov_ground.specs.Limits.{most_items, most_bins, most_points, most_products, most_design_bins, most_design_ranges}
use Rattle.cov_tree.specs.declared.groups.Member.{Member}
use Rattle.cov_tree.specs.declared.groups.Member.TheVariants as members
use Rattle.cov_tree.specs.declared.groups.PointDecl.{PointDecl}
use Rattle.cov_tree.specs.declared.groups.CrossDecl.{CrossDecl}
use Rattle.const_eval.specs.Scopes.{Levels}
use Rattle.const_eval.specs.Terms.{typ_of}
use Rattle.cov_options.specs.declared.options.Options.{Options}
use Rattle.cross_select.specs.Products.{product_of}
use Rattle.const_eval.specs.Binding.{has_width}
use Rattle.cov_options.specs.declared.values.Level.TheVariants as levels
use Rattle.design_data.specs.declared.infos.ItemInfo.{ItemInfo}
use Rattle.design_data.specs.declared.infos.BinInfo.{BinInfo}
use Rattle.design_data.specs.declared.infos.ItemShape.{ItemShape}
use Rattle.design_data.specs.declared.infos.ItemShape.TheVariants.{Point, Cross}
use Rattle.design_data.specs.Bins.{is_point, sizes_of, bins_in, total}
use Rattle.design_data.specs.Limits.{ranges_of, ranges_in, IsPointIndex, IsCross, IsShape, IsItem}
use Rattle.elab_base.specs.declared.fault.ElabKind.TheVariants as kind
use Rattle.elab_base.specs.Gives.{needs, each_at}
use Rattle.elab_base.specs.Steps.{unused, bound_in, guard_in}
use Rattle.elab_base.proofs.Keeps.{bind_ok, ok_is, each_keeps, needs_ok, all_push, all_as}
use Rattle.elab_decls.specs.declared.outside.Outside.{Outside}
use Rattle.elab_decls.specs.Options.{options_set, point_defaults, cross_defaults}
use Rattle.elab_decls.specs.Invariant.{AreInRange}
use Rattle.elab_decls.proofs.Widths.{tested_width}
use Rattle.elab_decls.proofs.Hits.{options_keep}
use Rattle.elab_values.specs.declared.domain.Domain.{Domain}
use Rattle.elab_values.specs.declared.made.ItemDecls.{ItemDecls}
use Rattle.elab_values.specs.declared.made.Made.{Made}
use Rattle.elab_values.specs.declared.made.PointBins.{PointBins}
use Rattle.elab_points.specs.Left.{bins_of_point}
use Rattle.elab_points.proofs.Kept.{AreLeft, IsRemoving, few_left, few_removing}
use Rattle.elab_crosses.specs.declared.axes.Axis.{Axis}
use Rattle.elab_crosses.specs.declared.axes.Axis.TheVariants as axis
use Rattle.elab_crosses.specs.Axes.{axes_named, sizes_fit}
use Rattle.elab_crosses.specs.Selections.{crossed}
use Rattle.elab_crosses.specs.Removal.{infos, bins_of_cross}
use Rattle.elab_crosses.specs.Promises.{IsPointAxis}
use Rattle.elab_crosses.proofs.Crossing.{cross_axes, cross_products}
use Rattle.elab_crosses.proofs.Among.{alike_behind, cross_among}
use Rattle.elab_crosses.proofs.Owed.{cross_is, cross_few}
use Rattle.elab_order.proofs.Numbering.{total-append}
use Rattle.elab_members.specs.declared.counts.Counts.{Counts}
use Rattle.elab_members.specs.declared.items.Items.{Items}
use Rattle.elab_members.specs.declared.items.Inside.{Inside}
use Rattle.elab_members.specs.declared.points.Head.{Head}
use Rattle.elab_members.specs.declared.crosses.CrossHead.{CrossHead}
use Rattle.elab_members.specs.Counting.{bins_counted}
use Rattle.elab_members.specs.Domains.{domain_of_point}
use Rattle.elab_members.specs.Items.{no_items, has_room, with_item}
use Rattle.elab_members.specs.Points.{point_name, point_item, point_decls, settings_of, with_point, head_of, bins_headed, named_point}
use Rattle.elab_members.specs.CrossNames.{around_cross, name_of_cross}
use Rattle.elab_members.specs.Crosses.{implicit_decl, Placed, placed, axis_placed, axes_placed, cross_head, cross_item, cross_decls, with_cross, headed_cross, bins_crossed, named_cross, placed_cross, cross}
use Rattle.elab_members.specs.Members.{member, members_walked}
use Rattle.elab_members.proofs.Heads.{head_range}
use Rattle.elab_members.proofs.Counted.{Counted, counted, length-infos, ranges-infos, point_rules}

-- ---- items

pub record AreItems (start : Counts) (s : Items) : Type 0 where
  pub items : s.counts.items ≡ start.items + length s.items
  pub few_items : s.counts.items ≤ most_items
  pub bins : s.counts.bins ≡ start.bins + bins_in s.items
  pub few_bins : s.counts.bins ≤ most_design_bins
  pub ranges : s.counts.ranges ≡ start.ranges + ranges_in s.items
  pub few_ranges : s.counts.ranges ≤ most_design_ranges
  pub each : AllByRecursion (IsItem s.items) s.items

pub record IsHead (head : Head) : Type 0 where
  pub width : has_width (typ_of head.expr).width ≡ true
  pub hits : 1 ≤ head.options.at_least

head_is : (outside : Outside) (inside : Inside) (name : List ℕ) (p : PointDecl) (head : Head) → head_of outside inside name p ≡ Ok head → AreInRange inside.options → IsHead head
unfolding head_of
head_is outside inside name p head e range =
    let x = bind_ok (bound_in outside.scope p.expr) _ head e in
    let g = bind_ok (guard_in outside.scope p.guard) _ head x.2 in
    let o = bind_ok (options_set levels.Point outside.scope p.options (point_defaults inside.options)) _ head g.2 in
    let n = bind_ok (needs (has_width (typ_of x.0).width) kind.TooWide p.at) _ head o.2 in
    let width = needs_ok (has_width (typ_of x.0).width) kind.TooWide p.at n.0 n.1 in
    record {
      width = subst (λ (h : Head). has_width (typ_of h.expr).width ≡ true) (ok_is _ head n.2) width;
      hits = (head_range outside inside name p head e range).0;
    }

-- more items behind an item change nothing of it
shape_grown : (items more : List ItemInfo) (item : ItemInfo) (shape : ItemShape) → IsShape items item shape → IsShape (items ++ more) item shape
shape_grown items more item (Point expr) h = h
shape_grown items more item (Cross axes) h = cross_among items (items ++ more) item.bins axes (alike_behind items more) h

grown : (items more : List ItemInfo) (item : ItemInfo) → IsItem items item → IsItem (items ++ more) item
grown items more item h = record { at_least = h.at_least; bins = h.bins; removing = h.removing; shape = shape_grown items more item item.shape h.shape }

each_pushed : (items : List ItemInfo) (item : ItemInfo) → AllByRecursion (IsItem items) items → IsItem (items ++ item ∷ []) item → AllByRecursion (IsItem (items ++ item ∷ [])) (items ++ item ∷ [])
each_pushed items item all one = all_push (IsItem (items ++ item ∷ [])) items item (all_as (IsItem items) (IsItem (items ++ item ∷ [])) (grown items (item ∷ [])) items all) one

-- one item more, with its bins counted
added_item : (item : ItemInfo) (decls : ItemDecls) (bins : List Made) (counts start : Counts) (s : Items) → item.bins ≡ map (λ (made : Made). made.bin) bins → s.counts.items < most_items → Counted bins s.counts counts → IsItem (s.items ++ item ∷ []) item
    → AreItems start s → AreItems start (with_item item decls counts s)
unfolding with_item
added_item item decls bins counts start s is room count one h =
    let length' = length_push s.items item in
    let bins' = total-append (λ (x : ItemInfo). length x.bins) s.items (item ∷ []) in
    let ranges' = total-append (λ (x : ItemInfo). total (λ (bin : BinInfo). ranges_of bin.rule) x.bins) s.items (item ∷ []) in
    let same : length item.bins ≡ length bins = ap (λ (xs : List BinInfo). length xs) is ∙ length-infos bins in
    let same_ranges : total (λ (bin : BinInfo). ranges_of bin.rule) item.bins ≡ total (λ (made : Made). ranges_of made.bin.rule) bins = ap (λ (xs : List BinInfo). total (λ (bin : BinInfo). ranges_of bin.rule) xs) is ∙ ranges-infos bins in
    let i = h.items in
    let b = h.bins in
    let r = h.ranges in
    let cb = count.bins in
    let cr = count.ranges in
    record {
      items = omega (arith, i, length');
      few_items = omega (arith, room);
      bins = omega (arith, b, cb, bins', same);
      few_bins = count.few_bins h.few_bins;
      ranges = omega (arith, r, cr, ranges', same_ranges);
      few_ranges = count.few_ranges h.few_ranges;
      each = each_pushed s.items item h.each one;
    }

-- ---- points

alone : (items : List ItemInfo) (head : Head) (found : PointBins) (s t : Counts) → IsHead head → AreLeft found → IsRemoving found → Counted found.bins s t → IsItem items (point_item head found)
alone items head found s t is left short count =
    let few = left.few in
    let same = length-infos found.bins in
    record {
      at_least = is.hits;
      bins = omega (arith, few, same);
      removing = short;
      shape = (tested_width (typ_of head.expr).width is.width, point_rules (point_item head found) found.bins left.have left.seqs count.short);
    }

-- a point is added behind the items
pub record IsAdded (start : Counts) (s t : Items) : Type 0 where
  pub all : AreItems start t
  pub item : ItemInfo
  pub behind : s.items ++ item ∷ [] ≡ t.items
  pub point : is_point item.shape ≡ true

headed_keeps : (outside : Outside) (inside : Inside) (domain : Domain) (head : Head) (p : PointDecl) (start : Counts) (s t : Items) → bins_headed outside inside domain head p s ≡ Ok t → IsHead head → s.counts.items < most_items → AreItems start s → IsAdded start s t
unfolding bins_headed with_point with_item
headed_keeps outside inside domain head p start s t e is room h =
    let settings = settings_of inside head in
    let b = bind_ok (bins_of_point outside.scope domain head.name settings p.bins p.at) _ t e in
    let c = bind_ok (bins_counted b.0.bins s.counts) _ t b.2 in
    let left = few_left outside.scope domain head.name settings p.bins p.at b.0 b.1 in
    let short = few_removing outside.scope domain head.name settings p.bins p.at b.0 b.1 in
    let count = counted b.0.bins s.counts c.0 c.1 in
    let item = point_item head b.0 in
    let all = added_item item (point_decls domain b.0) b.0.bins c.0 start s refl room count (alone (s.items ++ item ∷ []) head b.0 s.counts c.0 is left short count) h in
    subst (IsAdded start s) (ok_is _ t c.2) (record { all = all; item = item; behind = refl; point = refl })

named_keeps : (outside : Outside) (inside : Inside) (name : List ℕ) (p : PointDecl) (start : Counts) (s t : Items) → named_point outside inside name p s ≡ Ok t → AreInRange inside.options → AreItems start s → IsAdded start s t
unfolding named_point
named_keeps outside inside name p start s t e range h =
    let u = bind_ok (unused s.names name p.at) _ t e in
    let n = bind_ok (has_room s.counts p.at) _ t u.2 in
    let x = bind_ok (head_of outside inside name p) _ t n.2 in
    let few = needs_ok (nat_lt s.counts.items most_items) kind.DesignLimit p.at n.0 n.1 in
    headed_keeps outside inside (domain_of_point outside inside.names p.expr (typ_of x.0.expr)) x.0 p start s t x.2 (head_is outside inside name p x.0 x.1 range) (grind (arith, few)) h

-- ---- the points of a cross

last_is : (items : List ItemInfo) (item : ItemInfo) → slice_get (items ++ item ∷ []) (length items) ≡ Some item
last_is [] item = refl
last_is (x ∷ items) item = last_is items item

index_grown : (items more : List ItemInfo) (index : ℕ) → IsPointIndex items index → IsPointIndex (items ++ more) index
index_grown [] more index h = absurd h
index_grown (x ∷ items) more zero h = h
index_grown (x ∷ items) more (suc index) h = index_grown items more index h

axis_grown : (items more : List ItemInfo) (a : Axis) → IsPointAxis items a → IsPointAxis (items ++ more) a
axis_grown items more (axis.Item index) h = index_grown items more index h
axis_grown items more (axis.Implicit name) h = tt

pub record ArePlaced (start : Counts) (p : Placed) : Type 0 where
  pub items : AreItems start p.items
  pub points : AllByRecursion (IsPointIndex p.items.items) p.axes

-- one point more, and perhaps an item
pub record IsStep (start : Counts) (p q : Placed) : Type 0 where
  pub all : ArePlaced start q
  pub more : List ItemInfo
  pub behind : p.items.items ++ more ≡ q.items.items
  pub longer : length q.axes ≡ length p.axes + 1

axis_keeps : (outside : Outside) (inside : Inside) (at : ℕ) (a : Axis) (start : Counts) (p q : Placed) → axis_placed outside inside at a p ≡ Ok q → AreInRange inside.options → IsPointAxis p.items.items a → ArePlaced start p → IsStep start p q
unfolding axis_placed
axis_keeps outside inside at (axis.Item index) start p q e range is h =
    let count = length_push p.axes index in
    subst (IsStep start p) (ok_is (placed p.items (p.axes ++ index ∷ [])) q e) (record {
      all = record { items = h.items; points = all_push (IsPointIndex p.items.items) p.axes index h.points is };
      more = [];
      behind = append-nil p.items.items;
      longer = omega (arith, count);
    })
axis_keeps outside inside at (axis.Implicit name) start p q e range is h =
    let i = bind_ok (named_point outside inside name (implicit_decl name at) p.items) _ q e in
    let a = named_keeps outside inside name (implicit_decl name at) start p.items i.0 i.1 range h.items in
    let old = p.items.items in
    let new = old ++ a.item ∷ [] in
    let here : IsPointIndex new (length old) = subst (λ (o : Option ItemInfo). IsSomeAnd o (λ point. IsTrue (is_point point.shape))) (sym (last_is old a.item)) a.point in
    let points = all_push (IsPointIndex new) p.axes (length old) (all_as (IsPointIndex old) (IsPointIndex new) (index_grown old (a.item ∷ [])) p.axes h.points) here in
    let count = length_push p.axes (length old) in
    subst (IsStep start p) (ok_is _ q i.2) (record {
      all = record { items = a.all; points = subst (λ (items : List ItemInfo). AllByRecursion (IsPointIndex items) (p.axes ++ length old ∷ [])) a.behind points };
      more = a.item ∷ [];
      behind = a.behind;
      longer = omega (arith, count);
    })

pub record AreCrossed (start : Counts) (p q : Placed) (axes : List Axis) : Type 0 where
  pub all : ArePlaced start q
  pub count : length q.axes ≡ length p.axes + length axes

each_placed : (outside : Outside) (inside : Inside) (at k : ℕ) (axes : List Axis) (start : Counts) (p q : Placed) → each_at (λ i. axis_placed outside inside at) k axes p ≡ Ok q → AreInRange inside.options → AllByRecursion (IsPointAxis p.items.items) axes → ArePlaced start p → AreCrossed start p q axes
unfolding each_at
each_placed outside inside at k [] start p q e range is h =
    let same : length p.axes ≡ length q.axes = ap (λ (u : Placed). length u.axes) (ok_is p q e) in
    record { all = subst (ArePlaced start) (ok_is p q e) h; count = omega (arith, same) }
each_placed outside inside at k (a ∷ axes) start p q e range is h =
    let b = bind_ok (axis_placed outside inside at a p) (each_at (λ i. axis_placed outside inside at) (k + 1) axes) q e in
    let one = axis_keeps outside inside at a start p b.0 b.1 range is.0 h in
    let rest = subst (λ (items : List ItemInfo). AllByRecursion (IsPointAxis items) axes) one.behind (all_as (IsPointAxis p.items.items) (IsPointAxis (p.items.items ++ one.more)) (axis_grown p.items.items one.more) axes is.1) in
    let r = each_placed outside inside at (k + 1) axes start b.0 q b.2 range rest one.all in
    let longer = one.longer in
    let count = r.count in
    record { all = r.all; count = omega (arith, longer, count) }

-- ---- crosses

cross_defaults_range : (options : Options) → AreInRange options → AreInRange (cross_defaults options)
cross_defaults_range options h = (h.0, omega arith, omega arith)

cross_head_is : (scope : Levels) (inside : Inside) (name : List ℕ) (c : CrossDecl) (head : CrossHead) → cross_head scope inside name c ≡ Ok head → AreInRange inside.options → 1 ≤ head.options.at_least
unfolding cross_head
cross_head_is scope inside name c head e range =
    let g = bind_ok (guard_in scope c.guard) _ head e in
    let o = bind_ok (options_set levels.Cross scope c.options (cross_defaults inside.options)) _ head g.2 in
    let kept = options_keep levels.Cross scope c.options (cross_defaults inside.options) o.0 o.1 (cross_defaults_range inside.options range) in
    subst (λ (h : CrossHead). 1 ≤ h.options.at_least) (ok_is _ head o.2) kept.0

crossed_item : (items : List ItemInfo) (head : CrossHead) (axes : List ℕ) (bins : List Made) → 1 ≤ head.options.at_least → length bins ≤ most_bins → IsCross items (infos bins) axes → IsItem (items ++ cross_item head axes bins ∷ []) (cross_item head axes bins)
crossed_item items head axes bins hits few is =
    let same = length-infos bins in
    record {
      at_least = hits;
      bins = omega (arith, few, same);
      removing = omega arith;
      shape = cross_among items (items ++ cross_item head axes bins ∷ []) (infos bins) axes (alike_behind items (cross_item head axes bins ∷ [])) is;
    }

headed_cross_keeps : (scope : Levels) (head : CrossHead) (c : CrossDecl) (axes sizes : List ℕ) (start : Counts) (s t : Items) → headed_cross scope head c axes sizes s ≡ Ok t → 1 ≤ head.options.at_least → s.counts.items < most_items
    → length c.points ≤ length axes → length axes ≤ most_points → AllByRecursion (IsPointIndex s.items) axes → product_of (sizes_of s.items axes) ≤ most_products → sizes ≡ sizes_of s.items axes → AreItems start s → AreItems start t
unfolding headed_cross with_cross
headed_cross_keeps scope head c axes sizes start s t e hits room names few points products is h =
    let x = crossed c.points axes s.items s.decls in
    let b = bind_ok (bins_of_cross scope x sizes c.bins c.at) _ t e in
    let n = bind_ok (bins_counted b.0 s.counts) _ t b.2 in
    let made = subst (λ (ns : List ℕ). bins_of_cross scope x ns c.bins c.at ≡ Ok b.0) is b.1 in
    let cross' = cross_is scope x c.bins c.at b.0 names few points products made in
    let few_bins = cross_few scope x sizes c.bins c.at b.0 b.1 in
    let one = crossed_item s.items head axes b.0 hits few_bins cross' in
    subst (AreItems start) (ok_is _ t n.2) (added_item (cross_item head axes b.0) cross_decls b.0 n.0 start s refl room (counted b.0 s.counts n.0 n.1) one h)

named_cross_keeps : (scope : Levels) (inside : Inside) (name : List ℕ) (c : CrossDecl) (axes : List ℕ) (start : Counts) (s t : Items) → named_cross scope inside name c axes s ≡ Ok t → AreInRange inside.options
    → length c.points ≤ length axes → length axes ≤ most_points → AllByRecursion (IsPointIndex s.items) axes → AreItems start s → AreItems start t
unfolding named_cross bins_crossed
named_cross_keeps scope inside name c axes start s t e range names few points h =
    let z = bind_ok (sizes_fit s.items axes c.at) _ t e in
    let n = bind_ok (has_room s.counts c.at) _ t z.2 in
    let x = bind_ok (cross_head scope inside name c) _ t n.2 in
    let room = needs_ok (nat_lt s.counts.items most_items) kind.DesignLimit c.at n.0 n.1 in
    let products = cross_products s.items axes c.at z.0 z.1 in
    headed_cross_keeps scope x.0 c axes z.0 start s t x.2 (cross_head_is scope inside name c x.0 x.1 range) (grind (arith, room)) names few points products.1 products.0 h

cross_keeps : (outside : Outside) (inside : Inside) (c : CrossDecl) (start : Counts) (s t : Items) → cross outside inside c s ≡ Ok t → AreInRange inside.options → AreItems start s → AreItems start t
unfolding cross placed_cross axes_placed
cross_keeps outside inside c start s t e range h =
    let l = bind_ok (name_of_cross (around_cross outside inside s) c) _ t e in
    let a = bind_ok (axes_named (around_cross outside inside s) c.points c.at) _ t l.2 in
    let p = bind_ok (axes_placed outside inside c.at a.0 s) _ t a.2 in
    let axes = cross_axes (around_cross outside inside s) c.points c.at a.0 a.1 in
    let all = each_placed outside inside c.at 0 a.0 start (placed s []) p.0 p.1 range axes.2 (record { items = h; points = tt }) in
    let count = all.count in
    let same = axes.0 in
    let few = axes.1 in
    named_cross_keeps outside.scope inside l.0 c p.0.axes start p.0.items t p.2 range (omega (arith, count, same)) (omega (arith, count, few)) all.all.points all.all.items

-- ---- members

member_keeps : (outside : Outside) (inside : Inside) (m : Member) (start : Counts) (s t : Items) → member outside inside m s ≡ Ok t → AreInRange inside.options → AreItems start s → AreItems start t
member_keeps outside inside (members.Point p) start s t e range h = (named_keeps outside inside (point_name p (length s.items)) p start s t e range h).all
member_keeps outside inside (members.Opt o) start s t e range h = subst (AreItems start) (ok_is s t e) h
member_keeps outside inside (members.Cross c) start s t e range h = cross_keeps outside inside c start s t e range h

pub members_keep : (outside : Outside) (inside : Inside) (start : Counts) (ms : List Member) (t : Items) → start.items ≤ most_items → start.bins ≤ most_design_bins → start.ranges ≤ most_design_ranges → AreInRange inside.options → members_walked outside inside start ms ≡ Ok t → AreItems start t
unfolding members_walked
members_keep outside inside start ms t items bins ranges hits e =
    each_keeps (λ k. member outside inside) (AreItems start) (λ k m s u f h. member_keeps outside inside m start s u f hits h) 0 ms (no_items start) t e
    (record { items = omega arith; few_items = items; bins = omega arith; few_bins = bins; ranges = omega arith; few_ranges = ranges; each = tt })
