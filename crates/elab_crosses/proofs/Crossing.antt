-- The points that a cross names.
use Rattle.std.proofs.Common.{◌≡◌, ℕ, ◌+◌, ◌≤◌, List, [], ◌∷◌, length, length-append, leb, refl, sym, subst, ap, Bool, true, false, not, Option, Some, None, Ok, arith}
use Rattle.std.specs.Prelude.{slice_get, is_some, IsSomeAnd, IsTrue, if◌then◌else◌}
use Rattle.std.specs.List.{AllByRecursion}
use Rattle.std.proofs.lemmas.Bool.{leb-true}
use Rattle.cov_ground.specs.Limits.{most_points, most_products}
use Rattle.name_map.specs.Names.{meaning_of}
use Rattle.cross_select.specs.Products.{product_of}
use Rattle.design_data.specs.declared.infos.ItemInfo.{ItemInfo}
use Rattle.design_data.specs.Bins.{is_point, sizes_of}
use Rattle.elab_base.specs.declared.fault.ElabKind.TheVariants as kind
use Rattle.elab_base.specs.declared.names.What.{What}
use Rattle.elab_base.specs.Gives.{needs, each_at}
use Rattle.elab_base.proofs.Keeps.{bind_ok, ok_is, each_keeps, needs_ok, all_push}
use Rattle.elab_crosses.specs.declared.axes.Axis.{Axis}
use Rattle.elab_crosses.specs.declared.axes.Axis.TheVariants as axis
use Rattle.elab_crosses.specs.declared.axes.Named.{Named}
use Rattle.elab_crosses.specs.Axes.{Around, is_point_at, item_index, is_signal, signal_axis, indexed_axis, axis_of, known_axis, with_axis, axis_added, no_axes, axes_walked, axes_named, sizes_fit}
use Rattle.elab_crosses.specs.Promises.{IsPointAxis, AxesArePoints, ProductsAreFew}

-- ---- as many as names

one_longer : (around : Around) (at : ℕ) (name : List ℕ) (s t : Named) → axis_added around at name s ≡ Ok t → length t.axes ≡ length s.axes + 1
unfolding axis_added
one_longer around at name s t e =
    let n = bind_ok (needs (not (is_some (meaning_of s.seen name))) kind.UnknownPoint at) _ t e in
    let a = bind_ok (known_axis (axis_of around (meaning_of around.names name) name) at) _ t n.2 in
    subst (λ (v : Named). length v.axes ≡ length s.axes + 1) (ok_is (with_axis name a.0 s) t a.2) (length-append s.axes (a.0 ∷ []))

walked_long : (around : Around) (at k : ℕ) (names : List (List ℕ)) (s t : Named) → each_at (λ k. axis_added around at) k names s ≡ Ok t → length t.axes ≡ length s.axes + length names
unfolding each_at
walked_long around at k [] s t e = let same : length s.axes ≡ length t.axes = ap (λ (v : Named). length v.axes) (ok_is s t e) in omega (arith, same)
walked_long around at k (name ∷ names) s t e =
    let b = bind_ok (axis_added around at name s) (each_at (λ k. axis_added around at) (k + 1) names) t e in
    let one = one_longer around at name s b.0 b.1 in
    let rest = walked_long around at (k + 1) names b.0 t b.2 in
    omega (arith, one, rest)

-- ---- points

some_is : (x y : Axis) → Some x ≡ Some y → x ≡ y
some_is x y e = cc

point_is : (o : Option ItemInfo) → is_point_at o ≡ true → IsSomeAnd o (λ point. IsTrue (is_point point.shape))
point_is None e = absurd cc
point_is (Some item) e = e

item_by : (items : List ItemInfo) (index : ℕ) (a : Axis) (b : Bool) → is_point_at (slice_get items index) ≡ b → (if b then Some (axis.Item index) else None) ≡ Some a → IsPointAxis items a
item_by items index a true is e = subst (IsPointAxis items) (some_is (axis.Item index) a e) (point_is (slice_get items index) is)
item_by items index a false is e = absurd cc

indexed : (items : List ItemInfo) (o : Option ℕ) (a : Axis) → indexed_axis items o ≡ Some a → IsPointAxis items a
indexed items None a e = absurd cc
indexed items (Some index) a e = item_by items index a (is_point_at (slice_get items index)) refl e

implicit : (items : List ItemInfo) (is_later signal : Bool) (name : List ℕ) (a : Axis) → signal_axis is_later signal name ≡ Some a → IsPointAxis items a
implicit items true signal name a e = absurd cc
implicit items false true name a e = subst (IsPointAxis items) (some_is (axis.Implicit name) a e) tt
implicit items false false name a e = absurd cc

axis_is : (around : Around) (found : Option What) (name : List ℕ) (a : Axis) → axis_of around found name ≡ Some a → IsPointAxis around.items a
axis_is around (Some item) name a e = indexed around.items (item_index item) a e
axis_is around None name a e = implicit around.items (is_some (meaning_of around.points name)) (is_signal (meaning_of around.formals name) (meaning_of around.design name)) name a e

known_is : (o : Option Axis) (at : ℕ) (a : Axis) → known_axis o at ≡ Ok a → o ≡ Some a
known_is None at a e = absurd cc
known_is (Some x) at a e = ap (λ (y : Axis). Some y) (ok_is x a e)

added_is : (around : Around) (at : ℕ) (name : List ℕ) (s t : Named) → axis_added around at name s ≡ Ok t → AllByRecursion (IsPointAxis around.items) s.axes → AllByRecursion (IsPointAxis around.items) t.axes
unfolding axis_added
added_is around at name s t e all =
    let found = axis_of around (meaning_of around.names name) name in
    let n = bind_ok (needs (not (is_some (meaning_of s.seen name))) kind.UnknownPoint at) _ t e in
    let a = bind_ok (known_axis found at) _ t n.2 in
    subst (λ (v : Named). AllByRecursion (IsPointAxis around.items) v.axes) (ok_is (with_axis name a.0 s) t a.2)
    (all_push (IsPointAxis around.items) s.axes a.0 all (axis_is around (meaning_of around.names name) name a.0 (known_is found at a.0 a.1)))

-- The points of a cross are as many as its names, and no more than 16; each is an item that is a point, or is implicit.
pub cross_axes : AxesArePoints
unfolding axes_named axes_walked
cross_axes around names at axes e =
    let w = bind_ok (axes_walked around at names) _ axes e in
    let n = bind_ok (needs (leb (length w.0.axes) most_points) kind.TooManyPoints at) _ axes w.2 in
    let few : length w.0.axes ≤ most_points = leb-true (length w.0.axes) most_points (needs_ok (leb (length w.0.axes) most_points) kind.TooManyPoints at n.0 n.1) in
    let longer = walked_long around at 0 names no_axes w.0 w.1 in
    let long : length w.0.axes ≡ length names = omega (arith, longer) in
    let points : AllByRecursion (IsPointAxis around.items) w.0.axes =
    each_keeps (λ k. axis_added around at) (λ s. AllByRecursion (IsPointAxis around.items) s.axes) (λ k name s t. added_is around at name s t) 0 names no_axes w.0 w.1 tt in
    subst (λ (xs : List Axis). (length xs ≡ length names) × (length xs ≤ most_points) × AllByRecursion (IsPointAxis around.items) xs) (ok_is w.0.axes axes n.2) (long, few, points)

-- ---- products

pub cross_products : ProductsAreFew
unfolding sizes_fit
cross_products items axes at sizes e =
    let n = bind_ok (needs (leb (product_of (sizes_of items axes)) most_products) kind.TooManyProducts at) _ sizes e in
    (sym (ok_is (sizes_of items axes) sizes n.2), leb-true (product_of (sizes_of items axes)) most_products (needs_ok (leb (product_of (sizes_of items axes)) most_products) kind.TooManyProducts at n.0 n.1))
