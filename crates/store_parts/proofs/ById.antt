-- Tests by id.
use Rattle.std.proofs.Common.{◌≡◌, ℕ, zero, suc, List, [], ◌∷◌, map, refl, sym, ap, subst, ◌∙◌, Option, Some, None, option_map, Result, Ok, Err, IsOk, OnOk, bytes_eq, nat_eq, true≢false, Bool}
use Rattle.std.specs.Prelude.{find, option_copied, slice_get, IfSome}
use Rattle.std.specs.Arc.{arc_value}
use Rattle.design_data.specs.declared.design.Design.{Design}
use Rattle.tally.specs.declared.tally.Tally.{Tally}
use Rattle.store_parts.specs.Keeps.{rows_of}
use Rattle.std.specs.Map.{lookup}
use Rattle.std.specs.Option.{option_map_or}
use Rattle.std.specs.Cmp.Lexicographic.{pointwise}
use Rattle.std.specs.declared.vec.Vec.{Vec}
use Rattle.std.specs.declared.alloc.Global.{Global}
use Rattle.std.specs.Borrow.{Bor}
use Rattle.cov_history.specs.declared.entry.Entry.{Entry}
use Rattle.cov_history.specs.History.{Test, tests_of, kept}
use Rattle.cov_history.proofs.Bools.{by_bool}
use Rattle.store_parts.specs.declared.held.Kept.{Kept}
use Rattle.store_parts.specs.Words.{test_of}

pub on_ok : {T E P : Type 0} (r : Result T E) → IsOk r → OnOk r P → P
on_ok (Ok x) i p = p
on_ok (Err e) i p = absurd (true≢false (sym i))

pub borrowed : {T U : Type 0} (f : T → U) (o : Option (Bor T)) → option_map (λ (k : Bor T). f k.now) o ≡ option_map f (option_copied o)
borrowed f None = refl
borrowed f (Some x) = refl

viewed : (id : List ℕ) (es : List (Vec ℕ Global × Kept)) → option_map test_of (lookup (λ k. pointwise nat_eq id k.items) es) ≡ option_map (λ (p : List ℕ × Test). p.1) (find (λ (p : List ℕ × Test). bytes_eq id p.0) (map (λ (e : Vec ℕ Global × Kept). (e.0.items, test_of e.1)) es))
viewed id [] = refl
viewed id (e ∷ es) = let rest = viewed id es in by_bool (pointwise nat_eq id e.0.items) (λ k. rw k refl) (λ k. rw k rest)

by_id : (id : List ℕ) (ts : List Test) → option_map (λ (p : List ℕ × Test). p.1) (find (λ (p : List ℕ × Test). bytes_eq id p.0) (map (λ (t : Test). (t.content.id, t)) ts)) ≡ find (λ (t : Test). bytes_eq id t.content.id) ts
by_id id [] = refl
by_id id (t ∷ ts) = let rest = by_id id ts in by_bool (bytes_eq id t.content.id) (λ k. rw k refl) (λ k. rw k rest)

-- the test that the map has under an id is the one that the history keeps under it
pub kept_is : (es : List (Vec ℕ Global × Kept)) (h : List Entry) (id : List ℕ) → map {B = List ℕ × Test} (λ (e : Vec ℕ Global × Kept). (e.0.items, test_of e.1)) es ≡ map {B = List ℕ × Test} (λ (t : Test). (t.content.id, t)) (tests_of h) → option_map test_of (lookup (λ k. pointwise nat_eq id k.items) es) ≡ kept h id
kept_is es h id e = viewed id es ∙ ap (λ (ps : List (List ℕ × Test)). option_map (λ (p : List ℕ × Test). p.1) (find (λ (p : List ℕ × Test). bytes_eq id p.0) ps)) e ∙ by_id id (tests_of h)

map_none : {A B : Type 0} (f : A → B) (o : Option A) → option_map f o ≡ None → o ≡ None
map_none f None p = refl
map_none f (Some x) p = absurd (cc)

pub none_kept : (es : List (Vec ℕ Global × Kept)) (h : List Entry) (id : List ℕ) → map {B = List ℕ × Test} (λ (e : Vec ℕ Global × Kept). (e.0.items, test_of e.1)) es ≡ map {B = List ℕ × Test} (λ (t : Test). (t.content.id, t)) (tests_of h) → kept h id ≡ None → lookup (λ k. pointwise nat_eq id k.items) es ≡ None
none_kept es h id e none = map_none test_of (lookup (λ k. pointwise nat_eq id k.items) es) (kept_is es h id e ∙ none)

-- ---- tests by place

get_map : {A B : Type 0} (f : A → B) (xs : List A) (i : ℕ) → slice_get (map f xs) i ≡ option_map f (slice_get xs i)
get_map f [] i = refl
get_map f (x ∷ xs) zero = refl
get_map f (x ∷ xs) (suc i) = get_map f xs i

second : {A : Type 0} (f : A → List ℕ × Test) (o : Option A) → option_map (λ (p : List ℕ × Test). p.1) (option_map f o) ≡ option_map (λ (x : A). (f x).1) o
second f None = refl
second f (Some x) = refl

itself : (o : Option Test) → option_map (λ (x : Test). x) o ≡ o
itself None = refl
itself (Some x) = refl

-- the test at a place
pub test_there : (es : List (Vec ℕ Global × Kept)) (h : List Entry) (i : ℕ) → map {B = List ℕ × Test} (λ (e : Vec ℕ Global × Kept). (e.0.items, test_of e.1)) es ≡ map {B = List ℕ × Test} (λ (t : Test). (t.content.id, t)) (tests_of h) → option_map (λ (e : Vec ℕ Global × Kept). test_of e.1) (slice_get es i) ≡ slice_get (tests_of h) i
test_there es h i e =
    let view : (Vec ℕ Global × Kept) → List ℕ × Test = λ x. (x.0.items, test_of x.1) in
    let pair : Test → List ℕ × Test = λ t. (t.content.id, t) in
    let a : option_map view (slice_get es i) ≡ option_map pair (slice_get (tests_of h) i) = sym (get_map view es i) ∙ ap (λ (xs : List (List ℕ × Test)). slice_get xs i) e ∙ get_map pair (tests_of h) i in
    sym (second view (slice_get es i)) ∙ ap (option_map (λ (p : List ℕ × Test). p.1)) a ∙ second pair (slice_get (tests_of h) i) ∙ itself (slice_get (tests_of h) i)

-- ---- each test's rows

abbrev pub AllTallied : (d : Design) → List (Vec ℕ Global × Kept) → Type 0
AllTallied d [] = Unit {0}
AllTallied d (e ∷ es) = (arc_value e.1.tally ≡ rows_of d (test_of e.1)) × AllTallied d es

tallied_by : (d : Design) (es : List (Vec ℕ Global × Kept)) (ts : List Test) → map {B = List ℕ × Test} (λ (e : Vec ℕ Global × Kept). (e.0.items, test_of e.1)) es ≡ map {B = List ℕ × Test} (λ (t : Test). (t.content.id, t)) ts → map {B = Tally} (λ (e : Vec ℕ Global × Kept). arc_value e.1.tally) es ≡ map (rows_of d) ts → AllTallied d es
tallied_by d [] ts e f = tt
tallied_by d (x ∷ es) [] e f = absurd (cc)
tallied_by d (x ∷ es) (t ∷ ts) e f =
    let same : test_of x.1 ≡ t = ap (λ (p : List ℕ × Test). p.1) (head_same (x.0.items, test_of x.1) (t.content.id, t) e) in
    let rows : arc_value x.1.tally ≡ rows_of d t = head_same (arc_value x.1.tally) (rows_of d t) f in
    (rows ∙ ap (rows_of d) (sym same), tallied_by d es ts (tail_same e) (tail_same f))
  where
    head_same : {A : Type 0} (y z : A) {ys zs : List A} → y ∷ ys ≡ z ∷ zs → y ≡ z
    head_same y z g = cc

    tail_same : {A : Type 0} {y z : A} {ys zs : List A} → y ∷ ys ≡ z ∷ zs → ys ≡ zs
    tail_same g = cc

some_is : {A : Type 0} (x y : A) → ◌≡◌ {A = Option A} (Some x) (Some y) → x ≡ y
some_is x y e = ap (λ o. option_map_or (λ z. z) o x) e

found_tallied : (d : Design) (t : Vec ℕ Global → Bool) (es : List (Vec ℕ Global × Kept)) (k : Kept) → AllTallied d es → lookup t es ≡ Some k → arc_value k.tally ≡ rows_of d (test_of k)
found_tallied d t [] k all e = absurd (cc)
found_tallied d t (x ∷ es) k all e =
    let rest = found_tallied d t es k all.1 in
    by_bool (t x.0)
    (λ j. let g : ◌≡◌ {A = Option Kept} (Some x.1) (Some k) = sym (rw j refl) ∙ e in let same : x.1 ≡ k = some_is x.1 k g in subst (λ (y : Kept). arc_value y.tally ≡ rows_of d (test_of y)) same all.0)
    (λ j. rest (sym (rw j refl) ∙ e))

place_tallied : (d : Design) (es : List (Vec ℕ Global × Kept)) (i : ℕ) (x : Vec ℕ Global × Kept) → AllTallied d es → slice_get es i ≡ Some x → arc_value x.1.tally ≡ rows_of d (test_of x.1)
place_tallied d [] i x all e = absurd (cc)
place_tallied d (y ∷ es) zero x all e = let same : y ≡ x = some_is y x e in subst (λ (z : Vec ℕ Global × Kept). arc_value z.1.tally ≡ rows_of d (test_of z.1)) same all.0
place_tallied d (y ∷ es) (suc i) x all e = place_tallied d es i x all.1 e

pub by_id_tallied : (d : Design) (es : List (Vec ℕ Global × Kept)) (ts : List Test) (t : Vec ℕ Global → Bool) (o : Option Kept) → map {B = List ℕ × Test} (λ (e : Vec ℕ Global × Kept). (e.0.items, test_of e.1)) es ≡ map {B = List ℕ × Test} (λ (t : Test). (t.content.id, t)) ts → map {B = Tally} (λ (e : Vec ℕ Global × Kept). arc_value e.1.tally) es ≡ map (rows_of d) ts → lookup t es ≡ o → IfSome o (λ k. arc_value k.tally ≡ rows_of d (test_of k))
by_id_tallied d es ts t None e f g = tt
by_id_tallied d es ts t (Some k) e f g = found_tallied d t es k (tallied_by d es ts e f) g

pub at_place_tallied : (d : Design) (es : List (Vec ℕ Global × Kept)) (ts : List Test) (i : ℕ) (id : Vec ℕ Global) (k : Kept) → map {B = List ℕ × Test} (λ (e : Vec ℕ Global × Kept). (e.0.items, test_of e.1)) es ≡ map {B = List ℕ × Test} (λ (t : Test). (t.content.id, t)) ts → map {B = Tally} (λ (e : Vec ℕ Global × Kept). arc_value e.1.tally) es ≡ map (rows_of d) ts → slice_get es i ≡ Some (id, k) → arc_value k.tally ≡ rows_of d (test_of k)
at_place_tallied d es ts i id k e f g = place_tallied d es i (id, k) (tallied_by d es ts e f) g

-- of what is lent
pub lent : (P : Kept → Type 0) (o : Option (Bor Kept)) → IfSome (option_copied o) P → IfSome o (λ (k : Bor Kept). P k.now)
lent P None p = tt
lent P (Some k) p = p
