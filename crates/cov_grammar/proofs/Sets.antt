-- Sets of kinds, and tokens of these kinds.
use Rattle.std.proofs.Common.{◌≡◌, ℕ, ◌<◌, ◌≤◌, List, [], ◌∷◌, ◌++◌, Some, Bool, true, false, ◌||◌, ◌&&◌, cond, eqb, ◌⊎◌, inl, inr, refl, sym, ◌∙◌, ap, subst, arith, append-nil}
use Rattle.std.proofs.lemmas.Bool.{eqb-true, cases_lt}
use Rattle.std.proofs.lemmas.Grind.{common_steps}
use Rattle.cov_lexer.specs.declared.kind.Kind.{Kind}
use Rattle.cov_grammar.specs.declared.marked.Marked.{Marked}
use Rattle.cov_lexer.specs.Kinds.{code, has, has_code}
use Rattle.cov_grammar.specs.Rule.{In}

-- no kind is in both lists
abbrev pub disjoint : List Kind → List Kind → Bool
disjoint [] ys = true
disjoint (x ∷ xs) ys = cond (has x ys) false (disjoint xs ys)

-- each kind of the first list is in the second
abbrev pub subset : List Kind → List Kind → Bool
subset [] ys = true
subset (x ∷ xs) ys = cond (has x ys) (subset xs ys) false

abbrev pub when : Bool → List Kind → List Kind
when true xs = xs
when false xs = []

pub split : (m i : ℕ) → i ≤ m → (m ≡ i) ⊎ (i < m)
split m i h = elim (cases_lt i m) [ inl l ↦ inr l | inr g ↦ inl (omega arith) ]

pub and_true : (a b : Bool) → a ≡ true → b ≡ true → (a && b) ≡ true
and_true true b h k = k
and_true false b h k = absurd (cc)

or_true : (a b : Bool) → (a || b) ≡ true → (a ≡ true) ⊎ (b ≡ true)
or_true true b h = inl refl
or_true false b h = inr h

or_left : (a b : Bool) → a ≡ true → (a || b) ≡ true
or_left true b h = refl
or_left false b h = cc

or_right : (a b : Bool) → b ≡ true → (a || b) ≡ true
or_right true b h = refl
or_right false b h = h

has-left : (n : ℕ) (xs ys : List Kind) → has_code n xs ≡ true → has_code n (xs ++ ys) ≡ true
has-left n [] ys h = cc
has-left n (y ∷ xs) ys h = elim (or_true (eqb n (code y)) (has_code n xs) h) [
  | inl e ↦ or_left (eqb n (code y)) _ e
  | inr e ↦ or_right (eqb n (code y)) _ (has-left n xs ys e)
]

has-right : (n : ℕ) (xs ys : List Kind) → has_code n ys ≡ true → has_code n (xs ++ ys) ≡ true
has-right n [] ys h = h
has-right n (y ∷ xs) ys h = or_right (eqb n (code y)) _ (has-right n xs ys h)

cond_false : (b r : Bool) → cond b false r ≡ true → (b ≡ false) × (r ≡ true)
cond_false true r h = (absurd (cc), absurd (cc))
cond_false false r h = (refl, h)

cond_true : (b r : Bool) → cond b r false ≡ true → (b ≡ true) × (r ≡ true)
cond_true true r h = (refl, h)
cond_true false r h = (absurd (cc), absurd (cc))

disjoint_has : (n : ℕ) (xs ys : List Kind) → disjoint xs ys ≡ true → has_code n xs ≡ true → has_code n ys ≡ true → ⊥
disjoint_has n [] ys d h k = cc
disjoint_has n (y ∷ xs) ys d h k =
    let p = cond_false (has y ys) (disjoint xs ys) d in
    elim (or_true (eqb n (code y)) (has_code n xs) h) [
      | inl e ↦ (let same : has_code n ys ≡ has_code (code y) ys = ap (λ z. has_code z ys) (eqb-true n (code y) e) in let no = p.0 in cc)
      | inr e ↦ disjoint_has n xs ys p.1 e k
    ]

subset_has : (n : ℕ) (xs ys : List Kind) → subset xs ys ≡ true → has_code n xs ≡ true → has_code n ys ≡ true
subset_has n [] ys d h = absurd (cc)
subset_has n (y ∷ xs) ys d h =
    let p = cond_true (has y ys) (subset xs ys) d in
    elim (or_true (eqb n (code y)) (has_code n xs) h) [
      | inl e ↦ (let same : has_code n ys ≡ has_code (code y) ys = ap (λ z. has_code z ys) (eqb-true n (code y) e) in same ∙ p.0)
      | inr e ↦ subset_has n xs ys p.1 e
    ]

pub disjoint-nil : (xs : List Kind) → disjoint xs [] ≡ true
disjoint-nil [] = refl
disjoint-nil (x ∷ xs) = disjoint-nil xs

pub when-nothing : (fa : List Kind) (b : Bool) → fa ++ when b [] ≡ fa
when-nothing fa true = append-nil fa
when-nothing fa false = append-nil fa

pub and-true : (b : Bool) → (b && true) ≡ b
and-true true = refl
and-true false = refl

pub In_apart : (ts : List Marked) (i : ℕ) (xs ys : List Kind) → disjoint xs ys ≡ true → In ts i xs → In ts i ys → ⊥
In_apart ts i xs ys d p q =
    let same : Some p.token ≡ Some q.token = sym p.stands ∙ q.stands in
    let eq : p.token ≡ q.token = cc in
    disjoint_has (code q.token.kind) xs ys d (subst (λ (t : Marked). has t.kind xs ≡ true) eq p.of) q.of

pub In_left : (ts : List Marked) (i : ℕ) (xs ys : List Kind) → In ts i xs → In ts i (xs ++ ys)
In_left ts i xs ys p = record { token = p.token; stands = p.stands; of = has-left _ xs ys p.of }

pub In_right : (ts : List Marked) (i : ℕ) (xs ys : List Kind) → In ts i ys → In ts i (xs ++ ys)
In_right ts i xs ys p = record { token = p.token; stands = p.stands; of = has-right _ xs ys p.of }

pub In_more : (ts : List Marked) (i : ℕ) (xs ys : List Kind) → subset xs ys ≡ true → In ts i xs → In ts i ys
In_more ts i xs ys d p = record { token = p.token; stands = p.stands; of = subset_has _ xs ys d p.of }

pub In_when : (ts : List Marked) (i : ℕ) (b : Bool) (xs : List Kind) → b ≡ true → In ts i xs → In ts i (when b xs)
In_when ts i true xs h p = p
In_when ts i false xs h p = absurd (cc)

-- how sets are put together

cond_both : (b r : Bool) → b ≡ true → r ≡ true → cond b r false ≡ true
cond_both true r h k = k
cond_both false r h k = absurd (cc)

pub subset_right : (xs ys zs : List Kind) → subset xs zs ≡ true → subset xs (ys ++ zs) ≡ true
subset_right [] ys zs h = refl
subset_right (x ∷ xs) ys zs h =
    let p = cond_true (has x zs) (subset xs zs) h in
    cond_both (has x (ys ++ zs)) (subset xs (ys ++ zs)) (has-right (code x) ys zs p.0) (subset_right xs ys zs p.1)

pub subset_left : (xs ys zs : List Kind) → subset xs ys ≡ true → subset xs (ys ++ zs) ≡ true
subset_left [] ys zs h = refl
subset_left (x ∷ xs) ys zs h =
    let p = cond_true (has x ys) (subset xs ys) h in
    cond_both (has x (ys ++ zs)) (subset xs (ys ++ zs)) (has-left (code x) ys zs p.0) (subset_left xs ys zs p.1)

same_code : (n : ℕ) → eqb n n ≡ true
same_code n = grind (arith, common_steps)

pub subset_self : (xs : List Kind) → subset xs xs ≡ true
subset_self [] = refl
subset_self (x ∷ xs) = cond_both (has x (x ∷ xs)) (subset xs (x ∷ xs)) (or_left (eqb (code x) (code x)) _ (same_code (code x))) (subset_right xs (x ∷ []) xs (subset_self xs))

pub subset_append : (xs ys zs : List Kind) → subset xs zs ≡ true → subset ys zs ≡ true → subset (xs ++ ys) zs ≡ true
subset_append [] ys zs h k = k
subset_append (x ∷ xs) ys zs h k =
    let p = cond_true (has x zs) (subset xs zs) h in
    cond_both (has x zs) (subset (xs ++ ys) zs) p.0 (subset_append xs ys zs p.1 k)

-- with nothing behind it
pub subset_nil : (xs zs : List Kind) → subset xs zs ≡ true → subset (xs ++ []) zs ≡ true
subset_nil xs zs h = subset_append xs [] zs h refl
