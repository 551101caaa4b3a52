-- Which numbers and bins the products that are hit have.
use Rattle.std.proofs.Common.{◌≡◌, ◌⊎◌, ℕ, zero, suc, ◌+◌, ◌*◌, ◌<◌, List, [], ◌∷◌, ◌++◌, length, get_or, Bool, true, false, cond, refl, ap, sym, subst, ◌∙◌, inl, inr, arith}
use Rattle.std.specs.Prelude.{map, filter, nat_lt, ◌==◌, ◌||◌}
use Rattle.std.specs.List.{flat_map, Contains}
use Rattle.std.proofs.lemmas.List.Folds.{list_any-append, list_any_at}
use Rattle.std.proofs.lemmas.Bool.{or_cases, or_left, or_right, eqb-true, eq-eqb, ltb-true, lt-ltb, false≢true}
use Rattle.design_data.specs.Crosses.{IsProduct}
use Rattle.cross_sampler.specs.Once.{is_among}
use Rattle.cross_sampler.specs.Numbers.{number_of, below, extended, numbers_of, IsMade}

append_is : (n : ℕ) (xs ys : List ℕ) → is_among n (xs ++ ys) ≡ (is_among n xs || is_among n ys)
append_is n xs ys = list_any-append (λ (x : ℕ). x == n) xs ys

pub among_contains : (n : ℕ) (xs : List ℕ) → is_among n xs ≡ true → Contains xs n
among_contains n [] e = absurd (false≢true e)
among_contains n (x ∷ xs) e = elim (or_cases (x == n) (is_among n xs) e) [
  | inl same ↦ (zero, omega arith, eqb-true x n same)
  | inr later ↦ let r : (k : ℕ) × (k < length xs) × (get_or xs k n ≡ n) = among_contains n xs later in (suc r.0, omega (arith, r.1), r.2)
]

pub contains_among : (n : ℕ) (xs : List ℕ) → Contains xs n → is_among n xs ≡ true
contains_among n xs c = list_any_at (λ (x : ℕ). x == n) xs c.0 n c.1 (eq-eqb (get_or xs c.0 n) n c.2)

-- ---- what a test leaves

module _ (p : ℕ → Bool) (n : ℕ) where
  pub from_filter : (xs : List ℕ) → is_among n (filter p xs) ≡ true → (is_among n xs ≡ true) × (p n ≡ true)
  from_filter [] e = absurd (false≢true e)
  from_filter (x ∷ xs) e = by (p x) refl e (from_filter xs)
    where
      by : (b : Bool) → p x ≡ b → is_among n (cond b (x ∷ filter p xs) (filter p xs)) ≡ true → (is_among n (filter p xs) ≡ true → (is_among n xs ≡ true) × (p n ≡ true)) → (is_among n (x ∷ xs) ≡ true) × (p n ≡ true)
      by true is h go = elim (or_cases (x == n) (is_among n (filter p xs)) h) [
        | inl same ↦ (or_left (x == n) (is_among n xs) same, subst (λ (y : ℕ). p y ≡ true) (eqb-true x n same) is)
        | inr later ↦ let r = go later in (or_right (x == n) (is_among n xs) r.0, r.1)
      ]
      by false is h go = let r = go h in (or_right (x == n) (is_among n xs) r.0, r.1)

  pub to_filter : (xs : List ℕ) → is_among n xs ≡ true → p n ≡ true → is_among n (filter p xs) ≡ true
  to_filter [] e q = absurd (false≢true e)
  to_filter (x ∷ xs) e q = by (p x) refl (or_cases (x == n) (is_among n xs) e) (λ later. to_filter xs later q)
    where
      by : (b : Bool) → p x ≡ b → ((x == n) ≡ true) ⊎ (is_among n xs ≡ true) → (is_among n xs ≡ true → is_among n (filter p xs) ≡ true) → is_among n (cond b (x ∷ filter p xs) (filter p xs)) ≡ true
      by true is (inl same) go = or_left (x == n) (is_among n (filter p xs)) same
      by true is (inr later) go = or_right (x == n) (is_among n (filter p xs)) (go later)
      by false is (inl same) go = absurd (false≢true (sym is ∙ ap p (eqb-true x n same) ∙ q))
      by false is (inr later) go = go later

module _ (f : ℕ → List ℕ) (n : ℕ) where
  pub from_flat : (xs : List ℕ) → is_among n (flat_map f xs) ≡ true → (x : ℕ) × (is_among x xs ≡ true) × (is_among n (f x) ≡ true)
  from_flat [] e = absurd (false≢true e)
  from_flat (x ∷ xs) e = elim (or_cases (is_among n (f x)) (is_among n (flat_map f xs)) (sym (append_is n (f x) (flat_map f xs)) ∙ e)) [
    | inl here ↦ (x, or_left (x == x) (is_among x xs) (eq-eqb x x refl), here)
    | inr later ↦ let r : (y : ℕ) × (is_among y xs ≡ true) × (is_among n (f y) ≡ true) = from_flat xs later in (r.0, or_right (x == r.0) (is_among r.0 xs) r.1, r.2)
  ]

  pub to_flat : (xs : List ℕ) (x : ℕ) → is_among x xs ≡ true → is_among n (f x) ≡ true → is_among n (flat_map f xs) ≡ true
  to_flat [] x e h = absurd (false≢true e)
  to_flat (y ∷ ys) x e h = append_is n (f y) (flat_map f ys) ∙ elim (or_cases (y == x) (is_among x ys) e) [
    | inl same ↦ or_left (is_among n (f y)) (is_among n (flat_map f ys)) (ap (λ (z : ℕ). is_among n (f z)) (eqb-true y x same) ∙ h)
    | inr later ↦ or_right (is_among n (f y)) (is_among n (flat_map f ys)) (to_flat ys x later h)
  ]

module _ (base n : ℕ) where
  from_map : (hit : List ℕ) → is_among n (map (λ bin. base + bin) hit) ≡ true → (bin : ℕ) × (is_among bin hit ≡ true) × (n ≡ base + bin)
  from_map [] e = absurd (false≢true e)
  from_map (b ∷ hit) e = elim (or_cases ((base + b) == n) (is_among n (map (λ (bin : ℕ). base + bin) hit)) e) [
    | inl same ↦ (b, or_left (b == b) (is_among b hit) (eq-eqb b b refl), sym (eqb-true (base + b) n same))
    | inr later ↦ let r : (bin : ℕ) × (is_among bin hit ≡ true) × (n ≡ base + bin) = from_map hit later in (r.0, or_right (b == r.0) (is_among r.0 hit) r.1, r.2)
  ]

  to_map : (hit : List ℕ) (bin : ℕ) → is_among bin hit ≡ true → n ≡ base + bin → is_among n (map (λ bin. base + bin) hit) ≡ true
  to_map [] bin e is = absurd (false≢true e)
  to_map (b ∷ hit) bin e is = elim (or_cases (b == bin) (is_among bin hit) e) [
    | inl same ↦ or_left ((base + b) == n) (is_among n (map (λ (bin : ℕ). base + bin) hit)) (eq-eqb (base + b) n (ap (λ (z : ℕ). base + z) (eqb-true b bin same) ∙ sym is))
    | inr later ↦ or_right ((base + b) == n) (is_among n (map (λ (bin : ℕ). base + bin) hit)) (to_map hit bin later is)
  ]

-- the numbers are those of products made of the bins that are hit
pub from_numbers : (n : ℕ) (ns sizes : List ℕ) (hits : List (List ℕ)) → length hits ≡ length sizes → is_among n (numbers_of ns sizes hits) ≡ true
    → (m : ℕ) × (product : List ℕ) × (is_among m ns ≡ true) × IsMade hits product × IsProduct sizes product × (n ≡ number_of m sizes product)
from_numbers n ns [] [] len e = (n, [], e, tt, tt, refl)
from_numbers n ns [] (hit ∷ hits) len e = absurd (omega (arith, len))
from_numbers n ns (size ∷ sizes) [] len e = absurd (omega (arith, len))
from_numbers n ns (size ∷ sizes) (hit ∷ hits) len e =
    let r : (m : ℕ) × (product : List ℕ) × (is_among m (extended size hit ns) ≡ true) × IsMade hits product × IsProduct sizes product × (n ≡ number_of m sizes product) = from_numbers n (extended size hit ns) sizes hits (omega (arith, len)) e in
    let x : (b : ℕ) × (is_among b ns ≡ true) × (is_among r.0 (map (λ bin. b * size + bin) (below size hit)) ≡ true) = from_flat (λ (b : ℕ). map (λ bin. b * size + bin) (below size hit)) r.0 ns r.2 in
    let y : (bin : ℕ) × (is_among bin (below size hit) ≡ true) × (r.0 ≡ x.0 * size + bin) = from_map (x.0 * size) r.0 (below size hit) x.2 in
    let z : (is_among y.0 hit ≡ true) × (nat_lt y.0 size ≡ true) = from_filter (λ (bin : ℕ). nat_lt bin size) y.0 hit y.1 in
    (x.0, y.0 ∷ r.1, x.1, (z.0, r.3), (ltb-true y.0 size z.1, r.4), r.5 ∙ ap (λ (k : ℕ). number_of k sizes r.1) y.2)

pub to_numbers : (ns sizes : List ℕ) (hits : List (List ℕ)) (m : ℕ) (product : List ℕ) → length hits ≡ length sizes → is_among m ns ≡ true → IsMade hits product → IsProduct sizes product → is_among (number_of m sizes product) (numbers_of ns sizes hits) ≡ true
to_numbers ns [] [] m [] len e made p = e
to_numbers ns [] [] m (bin ∷ product) len e made p = absurd made
to_numbers ns [] (hit ∷ hits) m product len e made p = absurd (omega (arith, len))
to_numbers ns (size ∷ sizes) [] m product len e made p = absurd (omega (arith, len))
to_numbers ns (size ∷ sizes) (hit ∷ hits) m [] len e made p = absurd made
to_numbers ns (size ∷ sizes) (hit ∷ hits) m (bin ∷ product) len e made p =
    to_numbers (extended size hit ns) sizes hits (m * size + bin) product (omega (arith, len))
    (to_flat (λ (b : ℕ). map (λ bin. b * size + bin) (below size hit)) (m * size + bin) ns m e
    (to_map (m * size) (m * size + bin) (below size hit) bin (to_filter (λ (b : ℕ). nat_lt b size) bin hit made.0 (lt-ltb bin size p.0)) refl)) made.1 p.1
