-- Lists that are mapped, filtered and put together.
use Rattle.std.proofs.Common.{◌≡◌, ℕ, zero, suc, ◌+◌, ◌<◌, ◌≤◌, List, [], ◌∷◌, ◌++◌, map, length, Bool, true, false, cond, not, ◌&&◌, ◌||◌, refl, sym, ap, ◌∙◌, arith, add-one}
use Rattle.std.specs.Prelude.{filter}
use Rattle.std.specs.List.{flat_map, list_any, range_with_len}
use Rattle.std.proofs.lemmas.List.Folds.{list_any-append}
use Rattle.std.proofs.lemmas.Grind.{flat_map-append}
use Rattle.std.proofs.lemmas.List.{append-nil}
use Rattle.std.proofs.lemmas.List.FromFn.{map-range_with_len_more}

pub by_bool : {P : Type 0} (b : Bool) → (b ≡ true → P) → (b ≡ false → P) → P
by_bool true t f = t refl
by_bool false t f = f refl

pub flat_if : {X Y : Type 0} (p : X → Bool) (f : X → Y) (xs : List X) → flat_map (λ x. cond (p x) (f x ∷ []) []) xs ≡ map f (filter p xs)
flat_if p f [] = refl
flat_if {Y = Y} p f (x ∷ xs) =
    let rest = flat_if p f xs in
    by_bool (p x) (λ k. rw k (ap (λ (ys : List Y). f x ∷ ys) rest)) (λ k. rw k rest)

pub filter_twice : {X : Type 0} (p q : X → Bool) (xs : List X) → filter p (filter q xs) ≡ filter (λ x. q x && p x) xs
filter_twice p q [] = refl
filter_twice {X = X} p q (x ∷ xs) =
    let rest = filter_twice p q xs in
    by_bool (q x) (λ k. rw k (ap (λ (ys : List X). cond (p x) (x ∷ ys) ys) rest)) (λ k. rw k rest)

pub filter_same : {X : Type 0} (p q : X → Bool) → ((x : X) → p x ≡ q x) → (xs : List X) → filter p xs ≡ filter q xs
filter_same p q e xs = λ i. filter (λ x. e x i) xs

pub not_or : (a b : Bool) → (not a && not b) ≡ not (a || b)
not_or true b = refl
not_or false b = refl

range_snoc : (a n : ℕ) → range_with_len a (suc n) ≡ range_with_len a n ++ (a + n) ∷ []
range_snoc a zero = let e : a ≡ a + 0 = omega arith in ap (λ (k : ℕ). k ∷ []) e
range_snoc a (suc n) = let e : (a + 1) + n ≡ a + suc n = omega arith in ap (λ (ks : List ℕ). a ∷ ks) (range_snoc (a + 1) n ∙ ap (λ (k : ℕ). range_with_len (a + 1) n ++ k ∷ []) e)

or_false : (b : Bool) → (b || false) ≡ b
or_false true = refl
or_false false = refl

-- one number more
one_more : (n : ℕ) → range_with_len 0 (n + 1) ≡ range_with_len 0 n ++ n ∷ []
one_more n =
    let e : 0 + n ≡ n = omega arith in
    rw (add-one) (range_snoc 0 n ∙ ap (λ (k : ℕ). range_with_len 0 n ++ k ∷ []) e)

pub flat_more : {X : Type 0} (f : ℕ → List X) (n : ℕ) (old new : List X) → old ≡ flat_map f (range_with_len 0 n) → new ≡ old ++ f n → new ≡ flat_map f (range_with_len 0 (n + 1))
flat_more {X = X} f n old new was e =
    e ∙ ap (λ (xs : List X). xs ++ f n) was ∙ ap (λ (xs : List X). flat_map f (range_with_len 0 n) ++ xs) (sym (append-nil (f n)))
    ∙ sym (flat_map-append f (range_with_len 0 n) (n ∷ [])) ∙ ap (flat_map f) (sym (one_more n))

assoc : {X : Type 0} (xs ys zs : List X) → (xs ++ ys) ++ zs ≡ xs ++ (ys ++ zs)
assoc [] ys zs = refl
assoc {X = X} (x ∷ xs) ys zs = ap (λ (ws : List X). x ∷ ws) (assoc xs ys zs)

pub flat_grown : {X : Type 0} (f : ℕ → List X) (n : ℕ) (first old new : List X) → old ≡ first ++ flat_map f (range_with_len 0 n) → new ≡ old ++ f n → new ≡ first ++ flat_map f (range_with_len 0 (n + 1))
flat_grown {X = X} f n first old new was e =
    e ∙ ap (λ (xs : List X). xs ++ f n) was ∙ assoc first (flat_map f (range_with_len 0 n)) (f n)
    ∙ ap (λ (xs : List X). first ++ xs) (flat_more f n (flat_map f (range_with_len 0 n)) (flat_map f (range_with_len 0 n) ++ f n) refl refl)

pub filter_all : {X : Type 0} (xs : List X) → filter (λ x. true) xs ≡ xs
filter_all [] = refl
filter_all {X = X} (x ∷ xs) = ap (λ (ys : List X). x ∷ ys) (filter_all xs)

pub any_more : (p : ℕ → Bool) (n : ℕ) → list_any p (range_with_len 0 (n + 1)) ≡ (list_any p (range_with_len 0 n) || p n)
any_more p n =
    ap (list_any p) (one_more n) ∙ list_any-append p (range_with_len 0 n) (n ∷ []) ∙ ap (λ (b : Bool). list_any p (range_with_len 0 n) || b) (or_false (p n))

pub map_more : {X : Type 0} (f : ℕ → X) (n : ℕ) (old new : List X) (x : X) → old ≡ map f (range_with_len 0 n) → x ≡ f n → new ≡ old ++ x ∷ [] → new ≡ map f (range_with_len 0 (n + 1))
map_more f n old new x was is e =
    let z : 0 + n ≡ n = omega arith in e ∙ (λ i. was i ++ is i ∷ []) ∙ sym (map-range_with_len_more f 0 n n z)

-- what is alike below a number
pub map_below : {X : Type 0} (f g : ℕ → X) (a n most : ℕ) → a + n ≤ most → ((k : ℕ) → k < most → f k ≡ g k) → map f (range_with_len a n) ≡ map g (range_with_len a n)
map_below f g a zero most le e = refl
map_below f g a (suc n) most le e =
    let lt : a < most = omega (arith, le) in
    let few : (a + 1) + n ≤ most = omega (arith, le) in
    λ i. e a lt i ∷ map_below f g (a + 1) n most few e i

pub filter_below : (p q : ℕ → Bool) (a n most : ℕ) → a + n ≤ most → ((k : ℕ) → k < most → p k ≡ q k) → filter p (range_with_len a n) ≡ filter q (range_with_len a n)
filter_below p q a zero most le e = refl
filter_below p q a (suc n) most le e =
    let lt : a < most = omega (arith, le) in
    let few : (a + 1) + n ≤ most = omega (arith, le) in
    λ i. cond (e a lt i) (a ∷ filter_below p q (a + 1) n most few e i) (filter_below p q (a + 1) n most few e i)
