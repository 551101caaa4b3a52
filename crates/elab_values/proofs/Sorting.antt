-- A stable sort of constants by their values puts them in the order of `by_value`.
use Rattle.std.proofs.Common.{◌≡◌, ◌∙◌, ap, refl, sym, subst, ℕ, suc, ◌+◌, ◌<◌, ℤ, pos, ◌≤ℤ◌, ◌<ℤ◌, List, [], ◌∷◌, length, get_or, filter, arith, Bool, true, false, cond, IsSortedBy, int_lt, int_le, int_cmp, is_lt}
use Rattle.std.specs.Int.{int_min}
use Rattle.std.specs.List.{AllByRecursion}
use Rattle.std.proofs.Common.{Less, Equal, Greater}
use Rattle.std.proofs.lemmas.Grind.{common_steps}
use Rattle.std.proofs.lemmas.Int.{ints, by_lt_z}
use Rattle.elab_base.proofs.Keeps.{all_as}
use Rattle.std.specs.List.Sorted.{IsStableBy, ties}
use Rattle.elab_values.specs.declared.domain.Constant.{Constant}
use Rattle.elab_values.specs.Domains.{put_constant, by_value}

abbrev pub before : Constant → Constant → Bool
before x y = is_lt (int_cmp x.value y.value)

before_is : (x y : Constant) → before x y ≡ int_lt x.value y.value
before_is x y = by (int_lt x.value y.value) (int_lt y.value x.value)
  where
    by : (a b : Bool) → is_lt (cond a Less (cond b Greater Equal)) ≡ a
    by true b = refl
    by false true = refl
    by false false = refl

-- two constants tie where their values are equal
tie : Constant → Constant → Bool
tie x y = ties before x y

tie_self : (x : Constant) → tie x x ≡ true
unfolding tie
tie_self x = let a = before_is x x in let b : int_lt x.value x.value ≡ false = grind (arith, common_steps, ints) in rw (a, b) refl

tie_same : (x y : Constant) → tie x y ≡ true → x.value ≡ y.value
unfolding tie
tie_same x y e = let a = before_is x y in let b = before_is y x in grind (arith, common_steps, ints, a, b, e)

tie_apart : (x y : Constant) → x.value <ℤ y.value → tie x y ≡ false
unfolding tie
tie_apart x y lt = let a = before_is x y in let b : int_lt x.value y.value ≡ true = grind (arith, common_steps, ints, lt) in rw (a, b) refl

tie_equal : (x y : Constant) → x.value ≡ y.value → tie x y ≡ true
unfolding tie
tie_equal x y e =
    let a = before_is x y in
    let b = before_is y x in
    let c : int_lt x.value y.value ≡ false = grind (arith, common_steps, ints, e) in
    let d : int_lt y.value x.value ≡ false = grind (arith, common_steps, ints, e) in
    rw (a, b, c, d) refl

-- ---- what stands in order

-- no value is below the one before it
abbrev Rise : ℤ → List Constant → Type 0
Rise low [] = Unit {0}
Rise low (x ∷ xs) = (low ≤ℤ x.value) × Rise x.value xs

sorted_rise : (low : ℤ) (xs : List Constant) → IsSortedBy before xs → ((d : Constant) → 0 < length xs → low ≤ℤ (get_or xs 0 d).value) → Rise low xs
sorted_rise low [] up from = tt
sorted_rise low (x ∷ xs) up from = (
  from x (omega arith),
  sorted_rise x.value xs (λ k d le h. subst (λ (m : ℕ). before (get_or (x ∷ xs) m d) (get_or xs k d) ≡ false) (next k) (up (suc k) d (omega arith) (omega arith))) (λ d h. no_less (get_or xs 0 d) x (up 0 d (omega arith) (omega arith))),
)
  where
    next : (k : ℕ) → suc k + 1 ≡ suc (k + 1)
    next k = omega arith

    no_less : (y z : Constant) → before y z ≡ false → z.value ≤ℤ y.value
    no_less y z e = let a = before_is y z in grind (arith, common_steps, ints, a, e)

-- nothing among constants that are no lower ties with a lower one
none_tie : (x : Constant) (low : ℤ) (xs : List Constant) → Rise low xs → x.value <ℤ low → filter (tie x) xs ≡ []
none_tie x low [] up lt = refl
none_tie x low (y ∷ ys) up lt = by (tie x y) (tie_apart x y (omega (arith, ints, lt, up.0))) (none_tie x y.value ys up.1 (omega (arith, ints, lt, up.0)))
  where
    by : (b : Bool) → b ≡ false → filter (tie x) ys ≡ [] → cond b (y ∷ filter (tie x) ys) (filter (tie x) ys) ≡ []
    by b e h = rw e h

first_ties : (x : Constant) (xs : List Constant) → filter (tie x) (x ∷ xs) ≡ x ∷ filter (tie x) xs
first_ties x xs = rw (tie_self x) refl

no_some : {x : Constant} {xs : List Constant} → x ∷ xs ≡ [] → ⊥
no_some e = absurd cc

head_is : (x y : Constant) (xs ys : List Constant) → x ∷ xs ≡ y ∷ ys → x ≡ y
head_is x y xs ys e = cc

tail_is : (x y : Constant) (xs ys : List Constant) → x ∷ xs ≡ y ∷ ys → xs ≡ ys
tail_is x y xs ys e = cc

tails_tie : (x y : Constant) (ys zs : List Constant) → filter (tie x) (y ∷ ys) ≡ filter (tie x) (y ∷ zs) → filter (tie x) ys ≡ filter (tie x) zs
tails_tie x y ys zs e = by (tie x y) e
  where
    by : (b : Bool) → cond b (y ∷ filter (tie x) ys) (filter (tie x) ys) ≡ cond b (y ∷ filter (tie x) zs) (filter (tie x) zs) → filter (tie x) ys ≡ filter (tie x) zs
    by true e = tail_is y y (filter (tie x) ys) (filter (tie x) zs) e
    by false e = e

-- the first of two lists in order are the same where what ties stands in the same order
first_is : (low from : ℤ) (y z : Constant) (ys zs : List Constant) → Rise low (y ∷ ys) → Rise from (z ∷ zs) → ((x : Constant) → filter (tie x) (y ∷ ys) ≡ filter (tie x) (z ∷ zs)) → y ≡ z
first_is low from y z ys zs up rise same = head_is y z (filter (tie y) ys) (filter (tie y) zs) (sym (first_ties y ys) ∙ (same y ∙ second))
  where
    not_less : y.value <ℤ z.value → ⊥
    not_less lt = no_some (sym (first_ties y ys) ∙ (same y ∙ none_tie y z.value (z ∷ zs) (omega (arith, ints), rise.1) lt))

    not_more : z.value <ℤ y.value → ⊥
    not_more lt = no_some (sym (first_ties z zs) ∙ (sym (same z) ∙ none_tie z y.value (y ∷ ys) (omega (arith, ints), up.1) lt))

    value : y.value ≡ z.value
    value = by_lt_z y.value z.value (λ lt. absurd (not_less lt)) (λ le. by_lt_z z.value y.value (λ lt. absurd (not_more lt)) (λ ge. omega (arith, ints, le, ge)))

    second : filter (tie y) (z ∷ zs) ≡ z ∷ filter (tie y) zs
    second = rw (tie_equal y z value) refl

-- two lists in order are one where what ties stands in the same order
one_order : (low from : ℤ) (ys zs : List Constant) → Rise low ys → Rise from zs → ((x : Constant) → filter (tie x) ys ≡ filter (tie x) zs) → ys ≡ zs
one_order low from [] [] up rise same = refl
one_order low from [] (z ∷ zs) up rise same = absurd (no_some (sym (same z ∙ first_ties z zs)))
one_order low from (y ∷ ys) [] up rise same = absurd (no_some (sym (first_ties y ys) ∙ same y))
one_order low from (y ∷ ys) (z ∷ zs) up rise same =
    let is = first_is low from y z ys zs up rise same in
    let rest = one_order y.value z.value ys zs up.1 rise.1 (λ x. tails_tie x y ys zs (same x ∙ ap (λ (w : Constant). filter (tie x) (w ∷ zs)) (sym is))) in
    λ i. is i ∷ rest i

-- ---- the definition

put_rise : (low : ℤ) (c : Constant) (ds : List Constant) → low ≤ℤ c.value → Rise low ds → Rise low (put_constant c ds)
put_rise low c [] le up = (le, tt)
put_rise low c (d ∷ ds) le up = by (int_le c.value d.value) refl (λ lower. put_rise d.value c ds lower up.1)
  where
    by : (b : Bool) → int_le c.value d.value ≡ b → (d.value ≤ℤ c.value → Rise d.value (put_constant c ds)) → Rise low (cond b (c ∷ d ∷ ds) (d ∷ put_constant c ds))
    by true e rest = (le, (grind (arith, common_steps, ints, e), up.1))
    by false e rest = (up.0, rest (grind (arith, common_steps, ints, e)))

by_value_rise : (low : ℤ) (xs : List Constant) → AllByRecursion (λ (c : Constant). low ≤ℤ c.value) xs → Rise low (by_value xs)
unfolding by_value
by_value_rise low [] all = tt
by_value_rise low (x ∷ xs) all = put_rise low x (by_value xs) all.0 (by_value_rise low xs all.1)

put_ties : (x c : Constant) (ds : List Constant) → filter (tie x) (put_constant c ds) ≡ filter (tie x) (c ∷ ds)
put_ties x c [] = refl
put_ties x c (d ∷ ds) = by (int_le c.value d.value) refl (put_ties x c ds)
  where
    later : (a b : Bool) → (a ≡ true → b ≡ true → ⊥) → (rest fs : List Constant) → rest ≡ cond a (c ∷ fs) fs → cond b (d ∷ rest) rest ≡ cond a (c ∷ cond b (d ∷ fs) fs) (cond b (d ∷ fs) fs)
    later true true apart rest fs e = absurd (apart refl refl)
    later true false apart rest fs e = e
    later false true apart rest fs e = ap (λ (ys : List Constant). d ∷ ys) e
    later false false apart rest fs e = e

    not_both : int_le c.value d.value ≡ false → tie x c ≡ true → tie x d ≡ true → ⊥
    not_both e p q = let a = tie_same x c p in let b = tie_same x d q in absurd (grind (arith, common_steps, ints, a, b, e))

    by : (t : Bool) → int_le c.value d.value ≡ t → filter (tie x) (put_constant c ds) ≡ filter (tie x) (c ∷ ds) → filter (tie x) (cond t (c ∷ d ∷ ds) (d ∷ put_constant c ds)) ≡ filter (tie x) (c ∷ d ∷ ds)
    by true e rest = refl
    by false e rest = later (tie x c) (tie x d) (not_both e) (filter (tie x) (put_constant c ds)) (filter (tie x) ds) rest

by_value_ties : (x : Constant) (xs : List Constant) → filter (tie x) (by_value xs) ≡ filter (tie x) xs
unfolding by_value
by_value_ties x [] = refl
by_value_ties x (c ∷ cs) = put_ties x c (by_value cs) ∙ ap (λ (ys : List Constant). cond (tie x c) (c ∷ ys) ys) (by_value_ties x cs)

-- ---- what bounds constants from below

lowest : List Constant → ℤ
lowest [] = pos 0
lowest (c ∷ cs) = int_min c.value (lowest cs)

abbrev NoLower : ℤ → Constant → Type 0
NoLower low c = low ≤ℤ c.value

all_above : (cs : List Constant) → AllByRecursion (NoLower (lowest cs)) cs
unfolding lowest
all_above [] = tt
all_above (c ∷ cs) = (first c.value (lowest cs), all_as (NoLower (lowest cs)) (NoLower (int_min c.value (lowest cs))) (λ d le. later c.value (lowest cs) d.value le) cs (all_above cs))
  where
    first : (a b : ℤ) → int_min a b ≤ℤ a
    first a b = grind (arith, common_steps, ints)

    later : (a b v : ℤ) → b ≤ℤ v → int_min a b ≤ℤ v
    later a b v le = grind (arith, common_steps, ints, le)

rise_of : (ys : List Constant) → IsSortedBy before ys → (low : ℤ) × Rise low ys
rise_of [] up = (pos 0, tt)
rise_of (y ∷ ys) up = (y.value, sorted_rise y.value (y ∷ ys) up (λ d h. omega (arith, ints)))

pub sorted_is : (xs ys : List Constant) → IsSortedBy before ys → IsStableBy before xs ys → ys ≡ by_value xs
unfolding tie
sorted_is xs ys up stable =
    let rise = rise_of ys up in
    one_order rise.0 (lowest xs) ys (by_value xs) rise.1 (by_value_rise (lowest xs) xs (all_above xs)) (λ x. stable x ∙ sym (by_value_ties x xs))
