-- The names of the implicit points of a cross, and that its own name isn't among them.
use Rattle.std.proofs.Common.{◌≡◌, ◌∙◌, ℕ, ◌+◌, ◌<◌, ◌≤◌, List, [], ◌∷◌, ◌++◌, length, drop, get_or, refl, sym, ap, subst, leb, Bool, true, false, cond, Option, Some, None, Ok}
use Rattle.std.specs.Prelude.{nat_eq, slice_get, not, ◌&&◌, is_some, if◌then◌else◌}
use Rattle.std.specs.List.{AllByRecursion}
use Rattle.std.specs.Cmp.Lexicographic.{pointwise}
use Rattle.std.proofs.lemmas.List.{drop_more, drop_all}
use Rattle.cov_ground.specs.Limits.{most_points}
use Rattle.name_map.specs.Names.{Pairs, meaning_of, with_name}
use Rattle.name_map.proofs.Named.{first_of, meaning_of-append, same_names}
use Rattle.cov_tree.specs.declared.groups.CrossDecl.{CrossDecl}
use Rattle.design_data.specs.declared.infos.ItemInfo.{ItemInfo}
use Rattle.elab_base.specs.declared.fault.ElabKind.TheVariants as kind
use Rattle.elab_base.specs.declared.names.What.{What}
use Rattle.elab_base.specs.Gives.{needs, each_at}
use Rattle.elab_base.proofs.Keeps.{bind_ok, ok_is, needs_ok, and_first, and_second, all_push}
use Rattle.elab_crosses.specs.declared.axes.Axis.{Axis}
use Rattle.elab_crosses.specs.declared.axes.Axis.TheVariants as axis
use Rattle.elab_crosses.specs.declared.axes.Named.{Named}
use Rattle.elab_crosses.specs.Axes.{Around, item_index, is_signal, signal_axis, is_point_at, indexed_axis, axis_of, known_axis, with_axis, axis_added, no_axes, axes_walked, axes_named}
use Rattle.elab_members.specs.CrossNames.{cross_name, makes_point, with_implicit, implicit_names, is_free, name_behind, name_of_cross}

-- ---- a loop over the names of a cross

next_is : (names : List (List ℕ)) (i : ℕ) (name : List ℕ) → i < length names → name ≡ get_or names i name → drop i names ≡ name ∷ drop (i + 1) names
next_is names i name lt is = drop_more names i name lt ∙ ap (λ (n : List ℕ). n ∷ drop (i + 1) names) (sym is)

pub implied_more : (around : Around) (made new : Pairs (Unit {0})) (names : List (List ℕ)) (i : ℕ) (name : List ℕ) (whole : Pairs (Unit {0})) → i < length names → name ≡ get_or names i name → new ≡ with_implicit around name made → implicit_names around (drop i names) made ≡ whole
    → implicit_names around (drop (i + 1) names) new ≡ whole
unfolding implicit_names
implied_more around made new names i name whole lt is added before =
    ap (implicit_names around (drop (i + 1) names)) added ∙ (sym (ap (λ (ns : List (List ℕ)). implicit_names around ns made) (next_is names i name lt is)) ∙ before)

pub implied_done : (around : Around) (made : Pairs (Unit {0})) (names : List (List ℕ)) (i : ℕ) (whole : Pairs (Unit {0})) → length names ≤ i → implicit_names around (drop i names) made ≡ whole → made ≡ whole
unfolding implicit_names
implied_done around made names i whole le before = sym (ap (λ (ns : List (List ℕ)). implicit_names around ns made) (drop_all i names le)) ∙ before

-- ---- names that aren't there

-- two names that differ
abbrev pub Differs : (name other : List ℕ) → Type 0
Differs name other = pointwise nat_eq name other ≡ false

-- a name that isn't there with another one more wasn't there, and is not that one
gone : (made : Pairs (Unit {0})) (key name : List ℕ) → meaning_of (with_name made key tt) name ≡ None → (meaning_of made name ≡ None) × Differs name key
unfolding meaning_of
gone made key name e = by (meaning_of made key) refl e
  where
    there : (b : Bool) → pointwise nat_eq name key ≡ b → (m : Unit {0}) → meaning_of made key ≡ Some m → meaning_of made name ≡ None → pointwise nat_eq name key ≡ false
    there true e m is absent =
        let same : meaning_of made name ≡ Some m = ap (meaning_of made) (same_names name key e) ∙ is in
        let never : None ≡ Some m = sym absent ∙ same in
        absurd cc
    there false e m is absent = e

    parts : (o : Option (Unit {0})) (b : Bool) → first_of o (cond b (Some tt) None) ≡ None → (o ≡ None) × (b ≡ false)
    parts (Some m) b e = absurd cc
    parts None true e = absurd cc
    parts None false e = (refl, refl)

    by : (o : Option (Unit {0})) → meaning_of made key ≡ o → meaning_of (if is_some o then made else made ++ (key, tt) ∷ []) name ≡ None → (meaning_of made name ≡ None) × (pointwise nat_eq name key ≡ false)
    by (Some m) is e = (e, there (pointwise nat_eq name key) refl m is e)
    by None is e = parts (meaning_of made name) (pointwise nat_eq name key) (sym (meaning_of-append made ((key, tt) ∷ []) name) ∙ e)

-- a name that isn't there is not there with another one more
pub still_new : (pairs : Pairs What) (key name : List ℕ) (m : What) → meaning_of pairs name ≡ None → Differs name key → meaning_of (with_name pairs key m) name ≡ None
unfolding meaning_of
still_new pairs key name m absent other = by (is_some (meaning_of pairs key))
  where
    last : meaning_of (pairs ++ (key, m) ∷ []) name ≡ None
    last = meaning_of-append pairs ((key, m) ∷ []) name ∙ (ap (λ (o : Option What). first_of o (meaning_of ((key, m) ∷ []) name)) absent ∙ ap (λ (b : Bool). cond b (Some m) None) other)

    by : (b : Bool) → meaning_of (if b then pairs else pairs ++ (key, m) ∷ []) name ≡ None
    by true = absent
    by false = last

-- ---- the axes of a cross

before_one : (around : Around) (key : List ℕ) (made : Pairs (Unit {0})) (name : List ℕ) → meaning_of (with_implicit around key made) name ≡ None → meaning_of made name ≡ None
before_one around key made name e = by (makes_point around key) e
  where
    by : (b : Bool) → meaning_of (if b then with_name made key tt else made) name ≡ None → meaning_of made name ≡ None
    by true e = (gone made key name e).0
    by false e = e

before_all : (around : Around) (names : List (List ℕ)) (made : Pairs (Unit {0})) (name : List ℕ) → meaning_of (implicit_names around names made) name ≡ None → meaning_of made name ≡ None
unfolding implicit_names
before_all around [] made name e = e
before_all around (key ∷ names) made name e = before_one around key made name (before_all around names (with_implicit around key made) name e)

-- an axis that is no implicit point of this name
abbrev pub Apart : List ℕ → Axis → Type 0
Apart name (axis.Item index) = Unit {0}
Apart name (axis.Implicit other) = Differs name other

some_is : (x y : Axis) → Some x ≡ Some y → x ≡ y
some_is x y e = cc

item_apart : (name : List ℕ) (index : ℕ) (a : Axis) (b : Bool) → (if b then Some (axis.Item index) else None) ≡ Some a → Apart name a
item_apart name index a true e = subst (Apart name) (some_is (axis.Item index) a e) tt
item_apart name index a false e = absurd cc

indexed_apart : (name : List ℕ) (items : List ItemInfo) (o : Option ℕ) (a : Axis) → indexed_axis items o ≡ Some a → Apart name a
indexed_apart name items None a e = absurd cc
indexed_apart name items (Some index) a e = item_apart name index a (is_point_at (slice_get items index)) e

signal_apart : (name key : List ℕ) (made : Pairs (Unit {0})) (later signal : Bool) (a : Axis) → signal_axis later signal key ≡ Some a → meaning_of (if not later && signal then with_name made key tt else made) name ≡ None → Apart name a
signal_apart name key made true signal a e absent = absurd cc
signal_apart name key made false true a e absent = subst (Apart name) (some_is (axis.Implicit key) a e) (gone made key name absent).1
signal_apart name key made false false a e absent = absurd cc

axis_apart : (around : Around) (key : List ℕ) (made : Pairs (Unit {0})) (name : List ℕ) (found : Option What) (a : Axis) → axis_of around found key ≡ Some a
    → meaning_of (if not (is_some found) && (not (is_some (meaning_of around.points key)) && is_signal (meaning_of around.formals key) (meaning_of around.design key)) then with_name made key tt else made) name ≡ None → Apart name a
axis_apart around key made name (Some item) a e absent = indexed_apart name around.items (item_index item) a e
axis_apart around key made name None a e absent = signal_apart name key made (is_some (meaning_of around.points key)) (is_signal (meaning_of around.formals key) (meaning_of around.design key)) a e absent

known_is : (o : Option Axis) (at : ℕ) (a : Axis) → known_axis o at ≡ Ok a → o ≡ Some a
known_is None at a e = absurd cc
known_is (Some x) at a e = ap (λ (y : Axis). Some y) (ok_is x a e)

added_apart : (around : Around) (at : ℕ) (key : List ℕ) (made : Pairs (Unit {0})) (name : List ℕ) (s t : Named) → axis_added around at key s ≡ Ok t → meaning_of (with_implicit around key made) name ≡ None
    → AllByRecursion (Apart name) s.axes → AllByRecursion (Apart name) t.axes
unfolding axis_added
added_apart around at key made name s t e absent all =
    let found = axis_of around (meaning_of around.names key) key in
    let n = bind_ok (needs (not (is_some (meaning_of s.seen key))) kind.UnknownPoint at) _ t e in
    let a = bind_ok (known_axis found at) _ t n.2 in
    subst (λ (v : Named). AllByRecursion (Apart name) v.axes) (ok_is (with_axis key a.0 s) t a.2)
    (all_push (Apart name) s.axes a.0 all (axis_apart around key made name (meaning_of around.names key) a.0 (known_is found at a.0 a.1) absent))

walked_apart : (around : Around) (at k : ℕ) (names : List (List ℕ)) (made : Pairs (Unit {0})) (name : List ℕ) (s t : Named) → each_at (λ k. axis_added around at) k names s ≡ Ok t → meaning_of (implicit_names around names made) name ≡ None
    → AllByRecursion (Apart name) s.axes → AllByRecursion (Apart name) t.axes
unfolding each_at implicit_names
walked_apart around at k [] made name s t e absent all = subst (λ (v : Named). AllByRecursion (Apart name) v.axes) (ok_is s t e) all
walked_apart around at k (key ∷ names) made name s t e absent all =
    let b = bind_ok (axis_added around at key s) (each_at (λ k. axis_added around at) (k + 1) names) t e in
    let here = before_all around names (with_implicit around key made) name absent in
    walked_apart around at (k + 1) names (with_implicit around key made) name b.0 t b.2 absent (added_apart around at key made name s b.0 b.1 here all)

-- a name that no implicit point of these names has is that of no implicit axis
pub axes_apart : (around : Around) (names : List (List ℕ)) (at : ℕ) (name : List ℕ) (axes : List Axis) → axes_named around names at ≡ Ok axes → meaning_of (implicit_names around names []) name ≡ None → AllByRecursion (Apart name) axes
unfolding axes_named axes_walked
axes_apart around names at name axes e absent =
    let w = bind_ok (axes_walked around at names) _ axes e in
    let n = bind_ok (needs (leb (length w.0.axes) most_points) kind.TooManyPoints at) _ axes w.2 in
    subst (λ (xs : List Axis). AllByRecursion (Apart name) xs) (ok_is w.0.axes axes n.2) (walked_apart around at 0 names [] name no_axes w.0 w.1 absent tt)

-- ---- the name of a cross

none_of : {M : Type 0} → (o : Option M) → not (is_some o) ≡ true → o ≡ None
none_of None e = refl
none_of (Some m) e = absurd cc

-- no item before a cross has its name, and none of its implicit points
pub name_is_new : (around : Around) (c : CrossDecl) (name : List ℕ) → name_of_cross around c ≡ Ok name → (meaning_of around.names name ≡ None) × (meaning_of (implicit_names around c.points []) name ≡ None)
unfolding name_behind
name_is_new around c name e =
    let made = implicit_names around c.points [] in
    let given = cross_name c.label (length around.items + length made) in
    let n = bind_ok (needs (is_free around.names made given) kind.DuplicateName c.at) _ name e in
    let free = needs_ok (is_free around.names made given) kind.DuplicateName c.at n.0 n.1 in
    let item = and_first (not (is_some (meaning_of around.names given))) (not (is_some (meaning_of made given))) free in
    let point = and_second (not (is_some (meaning_of around.names given))) (not (is_some (meaning_of made given))) free in
    subst (λ (text : List ℕ). (meaning_of around.names text ≡ None) × (meaning_of made text ≡ None)) (ok_is given name n.2) (none_of (meaning_of around.names given) item, none_of (meaning_of made given) point)
