-- What stands in a list, by the tests that it passes; and the products of a cross.
use Rattle.std.proofs.Common.{◌≡◌, ℕ, zero, suc, ◌+◌, ◌<◌, ◌≤◌, List, [], ◌∷◌, map, filter, refl, Bool, true, false, ◌||◌, ◌&&◌, not, cond, arith}
use Rattle.std.specs.List.{AllByRecursion, list_any, flat_map, range_with_len}
use Rattle.design_data.specs.Crosses.{IsProduct, products}
use Rattle.elab_base.proofs.Keeps.{all_append, all_as}

-- ---- truth values

pub both_true : (a b : Bool) → a ≡ true → b ≡ true → (a && b) ≡ true
both_true true b p q = q
both_true false b p q = absurd cc

or_left : (a b : Bool) → a ≡ true → (a || b) ≡ true
or_left true b p = refl
or_left false b p = absurd cc

or_right : (a b : Bool) → b ≡ true → (a || b) ≡ true
or_right true b p = refl
or_right false b p = p

pub by_bool : {G : Type 0} (b : Bool) → (b ≡ true → G) → (b ≡ false → G) → G
by_bool true first second = first refl
by_bool false first second = second refl

pub same_bool : (a b : Bool) → (a ≡ true → b ≡ true) → (b ≡ true → a ≡ true) → a ≡ b
same_bool true true f g = refl
same_bool false false f g = refl
same_bool true false f g = absurd (let e : false ≡ true = f refl in cc)
same_bool false true f g = absurd (let e : false ≡ true = g refl in cc)

pub not_false : (b : Bool) → not b ≡ false → b ≡ true
not_false true e = refl
not_false false e = absurd cc

-- ---- what stands in a list

-- the list has the element: each test that it passes, some element passes
abbrev pub IsIn : {X : Type 0} → X → List X → Type 0
IsIn {X} x xs = (test : X → Bool) → test x ≡ true → list_any test xs ≡ true

pub in_each : {X : Type 0} (P : X → Type 0) (xs : List X) → ((x : X) → IsIn x xs → P x) → AllByRecursion P xs
in_each P [] h = tt
in_each P (x ∷ xs) h = (h x (λ test is. or_left (test x) (list_any test xs) is), in_each P xs (λ y stands. h y (λ test is. or_right (test x) (list_any test xs) (stands test is))))

some_by : {G : Type 0} (b rest : Bool) → (b ≡ true → G) → (rest ≡ true → G) → (b || rest) ≡ true → G
some_by true rest here there e = here refl
some_by false rest here there e = there e

pub some_in : {X G : Type 0} (test : X → Bool) (xs : List X) → ((x : X) → IsIn x xs → test x ≡ true → G) → list_any test xs ≡ true → G
some_in test [] h e = absurd cc
some_in test (x ∷ xs) h e =
    some_by (test x) (list_any test xs)
    (h x (λ other is. or_left (other x) (list_any other xs) is))
    (some_in test xs (λ y stands. h y (λ other is. or_right (other x) (list_any other xs) (stands other is)))) e

pub any_as : {X : Type 0} (one two : X → Bool) (xs : List X) → ((x : X) → one x ≡ true → two x ≡ true) → list_any one xs ≡ true → list_any two xs ≡ true
any_as one two xs f e = some_in one xs (λ x stands is. stands two (f x is)) e

-- ---- all of a list

pub filter_same : {X : Type 0} (one two : X → Bool) (xs : List X) → AllByRecursion (λ x. one x ≡ two x) xs → filter one xs ≡ filter two xs
filter_same one two [] all = refl
filter_same one two (x ∷ xs) all = let rest = filter_same one two xs all.1 in let here = all.0 in λ i. cond (here i) (x ∷ rest i) (rest i)

kept_by : {X : Type 0} (P : X → Type 0) (b : Bool) (x : X) (xs : List X) → P x → AllByRecursion P xs → AllByRecursion P (cond b (x ∷ xs) xs)
kept_by P true x xs p all = (p, all)
kept_by P false x xs p all = all

pub all_filter : {X : Type 0} (P : X → Type 0) (test : X → Bool) (xs : List X) → AllByRecursion P xs → AllByRecursion P (filter test xs)
all_filter P test [] all = tt
all_filter P test (x ∷ xs) all = kept_by P (test x) x (filter test xs) all.0 (all_filter P test xs all.1)

pub all_map : {X Y : Type 0} (P : Y → Type 0) (f : X → Y) (xs : List X) → AllByRecursion (λ x. P (f x)) xs → AllByRecursion P (map f xs)
all_map P f [] all = tt
all_map P f (x ∷ xs) all = (all.0, all_map P f xs all.1)

all_flat : {X Y : Type 0} (P : Y → Type 0) (f : X → List Y) (xs : List X) → AllByRecursion (λ x. AllByRecursion P (f x)) xs → AllByRecursion P (flat_map f xs)
all_flat P f [] all = tt
all_flat P f (x ∷ xs) all = all_append P (f x) (flat_map f xs) all.0 (all_flat P f xs all.1)

-- ---- products

below : (first count above : ℕ) → first + count ≤ above → AllByRecursion (λ n. n < above) (range_with_len first count)
below first zero above le = tt
below first (suc count) above le = (omega (arith, le), below (first + 1) count above (omega (arith, le)))

-- each of the products of a cross is one
pub products_are : (sizes : List ℕ) → AllByRecursion (IsProduct sizes) (products sizes)
products_are [] = (tt, tt)
products_are (size ∷ sizes) =
    let with_bin = λ (bin : ℕ). map (λ (rest : List ℕ). bin ∷ rest) (products sizes) in
    all_flat (IsProduct (size ∷ sizes)) with_bin (range_with_len 0 size)
    (all_as (λ bin. bin < size) (λ bin. AllByRecursion (IsProduct (size ∷ sizes)) (with_bin bin))
    (λ bin lt. all_map (IsProduct (size ∷ sizes)) (λ rest. bin ∷ rest) (products sizes) (all_as (IsProduct sizes) (λ rest. (bin < size) × IsProduct sizes rest) (λ rest is. (lt, is)) (products sizes) (products_are sizes)))
    (range_with_len 0 size) (below 0 size size (omega arith)))
