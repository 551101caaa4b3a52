-- Names in a map, and pairs one after the other.
use Rattle.std.proofs.Common.{◌≡◌, ℕ, Bor, Bool, true, false, cond, nat_eq, List, [], ◌∷◌, ◌++◌, Option, Some, None, refl, sym, ap, arith, ◌∙◌}
use Rattle.std.specs.Prelude.{is_some, if◌then◌else◌, ◌&&◌, option_copied}
use Rattle.std.proofs.lemmas.Bool.{eqb-true}
use Rattle.indexmap.specs.IndexMap.{insert_entry}
use Rattle.std.specs.Cmp.Lexicographic.{pointwise}
use Rattle.name_map.specs.Names.{Pairs, meaning_of, with_name, with_names}

none_from : {M : Type 0} → (o : Option M) → is_some o ≡ false → o ≡ None
none_from None e = refl
none_from (Some m) e = (cc)

-- a new name goes last
pub insert_absent : {M : Type 0} → (es : Pairs M) (key : List ℕ) (meaning : M) → is_some (meaning_of es key) ≡ false → insert_entry (pointwise nat_eq) es key meaning ≡ with_name es key meaning
unfolding meaning_of
insert_absent {M} es key meaning absent = last es (none_from (meaning_of es key) absent) ∙ sym (apart (is_some (meaning_of es key)) absent)
  where
    apart : (b : Bool) → b ≡ false → (if b then es else es ++ (key, meaning) ∷ []) ≡ es ++ (key, meaning) ∷ []
    apart b e = rw e refl

    step : (x : List ℕ × M) (xs : Pairs M) (b : Bool) → (meaning_of xs key ≡ None → insert_entry (pointwise nat_eq) xs key meaning ≡ xs ++ (key, meaning) ∷ []) → cond b (Some x.1) (meaning_of xs key) ≡ None → (if b then (x.0, meaning) ∷ xs else x ∷ insert_entry (pointwise nat_eq) xs key meaning) ≡ x ∷ (xs ++ (key, meaning) ∷ [])
    step x xs true rest e = (cc)
    step x xs false rest e = ap (λ (ns : Pairs M). x ∷ ns) (rest e)

    last : (es : Pairs M) → meaning_of es key ≡ None → insert_entry (pointwise nat_eq) es key meaning ≡ es ++ (key, meaning) ∷ []
    last [] e = refl
    last (x ∷ xs) e = step x xs (pointwise nat_eq key x.0) (last xs) e

-- ---- pairs one after the other

pub with_names-last : {M : Type 0} → (pairs more : Pairs M) (pair : List ℕ × M) → with_names pairs (more ++ pair ∷ []) ≡ with_name (with_names pairs more) pair.0 pair.1
with_names-last pairs [] pair = refl
with_names-last pairs (p ∷ more) pair = with_names-last (with_name pairs p.0 p.1) more pair

-- what the name has in the first pairs, or else in the later ones
abbrev pub first_of : {M : Type 0} → Option M → Option M → Option M
first_of None later = later
first_of (Some meaning) later = Some meaning

test_first : {M : Type 0} → (b : Bool) (m : M) (a c : Option M) → cond b (Some m) (first_of a c) ≡ first_of (cond b (Some m) a) c
test_first true m a c = refl
test_first false m a c = refl

pub meaning_of-append : {M : Type 0} → (a b : Pairs M) (name : List ℕ) → meaning_of (a ++ b) name ≡ first_of (meaning_of a name) (meaning_of b name)
unfolding meaning_of
meaning_of-append [] b name = refl
meaning_of-append {M} (e ∷ es) b name = ap (λ (r : Option M). cond (pointwise nat_eq name e.0) (Some e.1) r) (meaning_of-append es b name) ∙ test_first (pointwise nat_eq name e.0) e.1 (meaning_of es name) (meaning_of b name)

-- names of the same bytes are one
pub same_names : (a b : List ℕ) → pointwise nat_eq a b ≡ true → a ≡ b
same_names [] [] e = refl
same_names [] (y ∷ ys) e = (cc)
same_names (x ∷ xs) [] e = (cc)
same_names (x ∷ xs) (y ∷ ys) e = by (nat_eq x y) (pointwise nat_eq xs ys) refl refl (same_names xs ys) e
  where
    by : (a b : Bool) → nat_eq x y ≡ a → pointwise nat_eq xs ys ≡ b → (pointwise nat_eq xs ys ≡ true → xs ≡ ys) → (a && b) ≡ true → x ∷ xs ≡ y ∷ ys
    by true true p q rest e = λ i. eqb-true x y p i ∷ rest q i
    by true false p q rest e = (cc)
    by false b p q rest e = (cc)

-- and a name has the bytes of itself
pub same_as_itself : (a : List ℕ) → pointwise nat_eq a a ≡ true
same_as_itself [] = refl
same_as_itself (x ∷ xs) = let h = same_as_itself xs in let e : nat_eq x x ≡ true = grind arith in rw (e, h) refl

pub meaning_of-nil : {M : Type 0} → (name : List ℕ) → meaning_of {M = M} [] name ≡ None
unfolding meaning_of
meaning_of-nil name = refl

one_pair : {M : Type 0} → (key : List ℕ) (meaning : M) (name : List ℕ) → pointwise nat_eq name key ≡ false → meaning_of ((key, meaning) ∷ []) name ≡ None
unfolding meaning_of
one_pair {M} key meaning name e = ap (λ (b : Bool). cond b (Some meaning) None) e

first_of-none : {M : Type 0} → (o later : Option M) → later ≡ None → o ≡ first_of o later
first_of-none None later e = sym e
first_of-none (Some m) later e = refl

first_of-some : {M : Type 0} → (o later : Option M) (m : M) → o ≡ Some m → o ≡ first_of o later
first_of-some None later m e = (cc)
first_of-some (Some n) later m e = refl

first_of-first_of : {M : Type 0} → (a b c : Option M) → first_of (first_of a b) c ≡ first_of a (first_of b c)
first_of-first_of None b c = refl
first_of-first_of (Some m) b c = refl

meaning_of-with_name : {M : Type 0} → (pairs : Pairs M) (key : List ℕ) (meaning : M) (name : List ℕ) → meaning_of (with_name pairs key meaning) name ≡ first_of (meaning_of pairs name) (meaning_of ((key, meaning) ∷ []) name)
meaning_of-with_name {M} pairs key meaning name = by (meaning_of pairs key) refl
  where
    there : (b : Bool) → pointwise nat_eq name key ≡ b → (m : M) → meaning_of pairs key ≡ Some m → meaning_of pairs name ≡ first_of (meaning_of pairs name) (meaning_of ((key, meaning) ∷ []) name)
    there true e m is = first_of-some (meaning_of pairs name) (meaning_of ((key, meaning) ∷ []) name) m (ap (meaning_of pairs) (same_names name key e) ∙ is)
    there false e m is = first_of-none (meaning_of pairs name) (meaning_of ((key, meaning) ∷ []) name) (one_pair key meaning name e)

    by : (o : Option M) → meaning_of pairs key ≡ o → meaning_of (if is_some o then pairs else pairs ++ (key, meaning) ∷ []) name ≡ first_of (meaning_of pairs name) (meaning_of ((key, meaning) ∷ []) name)
    by None e = meaning_of-append pairs ((key, meaning) ∷ []) name
    by (Some m) e = there (pointwise nat_eq name key) refl m e

meaning_of-with_names : {M : Type 0} → (pairs more : Pairs M) (name : List ℕ) → meaning_of (with_names pairs more) name ≡ first_of (meaning_of pairs name) (meaning_of more name)
meaning_of-with_names {M} pairs [] name = first_of-none (meaning_of pairs name) (meaning_of {M = M} [] name) (meaning_of-nil name)
meaning_of-with_names {M} pairs (p ∷ more) name =
    meaning_of-with_names (with_name pairs p.0 p.1) more name ∙ (ap (λ (o : Option M). first_of o (meaning_of more name)) (meaning_of-with_name pairs p.0 p.1 name) ∙ (first_of-first_of (meaning_of pairs name) (meaning_of (p ∷ []) name) (meaning_of more name) ∙ ap (first_of (meaning_of pairs name)) (sym (meaning_of-append (p ∷ []) more name))))

-- each name stands for what its first pair says
pub meaning_of_pairs : {M : Type 0} → (names pairs : Pairs M) → names ≡ with_names [] pairs → (name : List ℕ) → meaning_of names name ≡ meaning_of pairs name
meaning_of_pairs {M} names pairs is name = ap (λ (ns : Pairs M). meaning_of ns name) is ∙ (meaning_of-with_names [] pairs name ∙ ap (λ (o : Option M). first_of o (meaning_of pairs name)) (meaning_of-nil name))

-- a look-up that finds nothing
pub absent_is : {M : Type 0} → (found : Option (Bor M)) (meaning : Option M) → option_copied found ≡ meaning → is_some found ≡ false → is_some meaning ≡ false
absent_is None meaning e none = ap is_some (sym e)
absent_is (Some m) meaning e none = (cc)

-- one pair more
pub pairs_step : {M : Type 0} → (before after done : Pairs M) (pair : List ℕ × M) → after ≡ with_name before pair.0 pair.1 → before ≡ with_names [] done → after ≡ with_names [] (done ++ pair ∷ [])
pairs_step {M} before after done pair is was = is ∙ (ap (λ (ns : Pairs M). with_name ns pair.0 pair.1) was ∙ sym (with_names-last [] done pair))
