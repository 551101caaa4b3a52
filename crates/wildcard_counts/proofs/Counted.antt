-- How many of the first numbers agree, place by place, and of the numbers of a range.
use Rattle.std.proofs.Common.{◌≡◌, ◌∙◌, refl, ap, sym, subst, ℕ, zero, suc, ◌+◌, ◌*◌, ◌%◌, ◌^◌, ◌<◌, ◌≤◌, ◌==◌, arith, Bool, true, false, cond, pow-suc}
use Rattle.std.specs.Prelude.{◌&&◌}
use Rattle.std.specs.Int.{bit_at}
use Rattle.std.proofs.Math.Nat.{mod-eq_of_lt}
use Rattle.std.proofs.lemmas.Nat.{pow_pos, mod_below, mod-pow-add}
use Rattle.std.proofs.lemmas.Nat.Bits.{bit_at-lt, bit_at_above}
use Rattle.wildcard_bins.specs.declared.pattern.Pattern.{Pattern}
use Rattle.wildcard_bins.specs.Halves.{has_half}
use Rattle.wildcard_bins.proofs.Bits.{all-suc, all_same, bit_at-add_same, bit_at-add_below}
use Rattle.wildcard_counts.specs.Distances.{many, meets, met_below, or_none}

-- ---- how many pass

pub many_few : (f : ℕ → Bool) (n : ℕ) → many f n ≤ n
unfolding many
many_few f zero = omega arith
many_few f (suc n) = by (f n) (many_few f n)
  where
    by : (b : Bool) → many f n ≤ n → many f n + (cond b 1 0) ≤ suc n
    by true h = omega (arith, h)
    by false h = omega (arith, h)

pub many_same : (f g : ℕ → Bool) (n : ℕ) → ((u : ℕ) → u < n → f u ≡ g u) → many f n ≡ many g n
unfolding many
many_same f g zero same = refl
many_same f g (suc n) same = λ i. many_same f g n (λ u lt. same u (omega (arith, lt))) i + cond (same n (omega arith) i) 1 0

pub many_more : (f : ℕ → Bool) (a m : ℕ) → many f (m + a) ≡ many f a + many (λ u. f (u + a)) m
unfolding many
many_more f a zero = omega (arith, same)
  where
    same : many f (0 + a) ≡ many f a
    same = ap (many f) (omega arith)
many_more f a (suc m) = ap (many f) next ∙ (ap (λ (n : ℕ). n + cond (f (m + a)) 1 0) (many_more f a m) ∙ omega arith)
  where
    next : suc m + a ≡ suc (m + a)
    next = omega arith

many_if : (f : ℕ → Bool) (b : Bool) (n : ℕ) → many (λ u. f u && b) n ≡ or_none b (many f n)
unfolding many
many_if f true zero = refl
many_if f false zero = refl
many_if f true (suc n) = λ i. many_if f true n i + cond (same (f n) i) 1 0
  where
    same : (t : Bool) → (t && true) ≡ t
    same true = refl
    same false = refl
many_if f false (suc n) = ap (λ (m : ℕ). m + cond (f n && false) 1 0) (many_if f false n) ∙ none (f n)
  where
    none : (t : Bool) → 0 + cond (t && false) 1 0 ≡ 0
    none true = refl
    none false = refl

-- ---- one place more

meets-suc : (p : Pattern) (k u : ℕ) → meets p (suc k) u ≡ (meets p k u && has_half p k (bit_at u k))
unfolding meets
meets-suc p k u = all-suc (λ place. has_half p place (bit_at u place)) k

meets_same : (p : Pattern) (k u w : ℕ) → ((i : ℕ) → i < k → bit_at u i ≡ bit_at w i) → meets p k u ≡ meets p k w
unfolding meets
meets_same p k u w same = all_same (λ place. has_half p place (bit_at u place)) (λ place. has_half p place (bit_at w place)) k (λ i lt. ap (has_half p i) (same i lt))

meets_lower : (p : Pattern) (k u : ℕ) → u < 2 ^ k → meets p (suc k) u ≡ (meets p k u && has_half p k 0)
meets_lower p k u lt = meets-suc p k u ∙ ap (λ (b : ℕ). meets p k u && has_half p k b) (bit_at_above u k k lt (omega arith))

meets_upper : (p : Pattern) (k u : ℕ) → u < 2 ^ k → meets p (suc k) (u + 2 ^ k) ≡ (meets p k u && has_half p k 1)
meets_upper p k u lt = meets-suc p k (u + 2 ^ k) ∙ both (meets_same p k (u + 2 ^ k) u (λ i below. bit_at-add_below u k i below)) (ap (has_half p k) (bit_at-add_same u k lt))
  where
    both : {a b c d : Bool} → a ≡ c → b ≡ d → (a && b) ≡ (c && d)
    both e f = λ i. e i && f i

-- distances in the lower half
met_lower : (p : Pattern) (k m : ℕ) → m ≤ 2 ^ k → met_below p (suc k) m ≡ or_none (has_half p k 0) (met_below p k m)
met_lower p k m le = many_same (meets p (suc k)) (λ u. meets p k u && has_half p k 0) m (λ u lt. meets_lower p k u (omega (arith, lt, le))) ∙ many_if (meets p k) (has_half p k 0) m

-- distances that go into the upper half
met_upper : (p : Pattern) (k m : ℕ) → m ≤ 2 ^ k → met_below p (suc k) (m + 2 ^ k) ≡ or_none (has_half p k 0) (met_below p k (2 ^ k)) + or_none (has_half p k 1) (met_below p k m)
met_upper p k m le =
    many_more (meets p (suc k)) (2 ^ k) m
    ∙ (λ i. met_lower p k (2 ^ k) (omega arith) i + upper i)
  where
    upper : many (λ u. meets p (suc k) (u + 2 ^ k)) m ≡ or_none (has_half p k 1) (met_below p k m)
    upper = many_same (λ u. meets p (suc k) (u + 2 ^ k)) (λ u. meets p k u && has_half p k 1) m (λ u lt. meets_upper p k u (omega (arith, lt, le))) ∙ many_if (meets p k) (has_half p k 1) m

pub all_step : (p : Pattern) (k all new : ℕ) → all ≡ met_below p k (2 ^ k) → new ≡ or_none (has_half p k 0) all + or_none (has_half p k 1) all → new ≡ met_below p (k + 1) (2 ^ (k + 1))
all_step p k all new was is =
    let twice : 2 ^ suc k ≡ 2 ^ k + 2 ^ k = omega (arith, pow-suc 2 k) in
    let next : suc k ≡ k + 1 = omega arith in
    let here : new ≡ met_below p (suc k) (2 ^ suc k) = is ∙ ((λ i. or_none (has_half p k 0) (was i) + or_none (has_half p k 1) (was i)) ∙ (sym (met_upper p k (2 ^ k) (omega arith)) ∙ ap (met_below p (suc k)) (sym twice))) in
    subst (λ (j : ℕ). new ≡ met_below p j (2 ^ j)) next here

-- the bound's bits at one place more
more_bits : (n k : ℕ) → n % 2 ^ (k + 1) ≡ bit_at n k * 2 ^ k + n % 2 ^ k
more_bits n k = ap (λ (j : ℕ). n % 2 ^ j) (omega arith) ∙ mod-pow-add n 1 k

pub below_step : (p : Pattern) (k n bit all below new : ℕ) → bit ≡ bit_at n k → all ≡ met_below p k (2 ^ k) → below ≡ met_below p k (n % 2 ^ k)
    → new ≡ cond (bit == 0) (or_none (has_half p k 0) below) (or_none (has_half p k 0) all + or_none (has_half p k 1) below) → new ≡ met_below p (k + 1) (n % 2 ^ (k + 1))
below_step p k n bit all below new at was low is = by bit (subst (λ (b : ℕ). b < 2) (sym at) (bit_at-lt n k)) at is
  where
    less : n % 2 ^ k < 2 ^ k
    less = mod_below n (2 ^ k) (pow_pos k)

    next : (m : ℕ) → new ≡ met_below p (suc k) m → m ≡ n % 2 ^ (k + 1) → new ≡ met_below p (k + 1) (n % 2 ^ (k + 1))
    next m e f = subst (λ (j : ℕ). new ≡ met_below p j (n % 2 ^ (k + 1))) (omega arith) (e ∙ ap (met_below p (suc k)) f)

    by : (b : ℕ) → b < 2 → b ≡ bit_at n k → new ≡ cond (b == 0) (or_none (has_half p k 0) below) (or_none (has_half p k 0) all + or_none (has_half p k 1) below) → new ≡ met_below p (k + 1) (n % 2 ^ (k + 1))
    by zero lt e is = next (n % 2 ^ k) (is ∙ (ap (or_none (has_half p k 0)) low ∙ sym (met_lower p k (n % 2 ^ k) (omega (arith, less))))) (omega arith ∙ sym (more_bits n k ∙ ap (λ (b : ℕ). b * 2 ^ k + n % 2 ^ k) (sym e)))
    by (suc zero) lt e is = next (n % 2 ^ k + 2 ^ k) (is ∙ ((λ i. or_none (has_half p k 0) (was i) + or_none (has_half p k 1) (low i)) ∙ sym (met_upper p k (n % 2 ^ k) (omega (arith, less))))) (omega arith ∙ sym (more_bits n k ∙ ap (λ (b : ℕ). b * 2 ^ k + n % 2 ^ k) (sym e)))
    by (suc (suc b)) lt e is = absurd (omega (arith, lt))

pub whole_few : (p : Pattern) (k new : ℕ) → new ≡ met_below p k (2 ^ k) → new ≤ 2 ^ k
whole_few p k new is = let few = many_few (meets p k) (2 ^ k) in omega (arith, is, few)

pub below_few : (p : Pattern) (k new n : ℕ) → new ≡ met_below p k (n % 2 ^ k) → new ≤ 2 ^ k
below_few p k new n is = let few = many_few (meets p k) (n % 2 ^ k) in let less = mod_below n (2 ^ k) (pow_pos k) in omega (arith, is, few, less)

pub all_begin : (p : Pattern) (all : ℕ) → all ≡ 1 → all ≡ met_below p 0 (2 ^ 0)
unfolding many meets
all_begin p all e = e

pub below_begin : (p : Pattern) (n below : ℕ) → below ≡ 0 → below ≡ met_below p 0 (n % 2 ^ 0)
unfolding many meets
below_begin p n below e = e ∙ ap (many (meets p 0)) (sym (small (n % 1) (mod_below n 1 (omega arith))))
  where
    small : (m : ℕ) → m < 1 → m ≡ 0
    small m lt = omega (arith, lt)

-- all places
pub bound_all : (p : Pattern) (place n all most : ℕ) → p.width ≤ place → place ≤ p.width → most ≡ 2 ^ p.width → n ≡ most → all ≡ met_below p place (2 ^ place) → all ≡ met_below p p.width n
bound_all p place n all most ge le is e was =
    let same : place ≡ p.width = omega (arith, ge, le) in
    was ∙ ((λ i. met_below p (same i) (2 ^ same i)) ∙ ap (met_below p p.width) (sym (e ∙ is)))

less : (n m : ℕ) → n ≤ m → (n ≡ m → ⊥) → n < m
less n m le other = omega (arith, le, other)

pub bound_below : (p : Pattern) (place n most below : ℕ) → p.width ≤ place → place ≤ p.width → n ≤ most → (n ≡ most → ⊥) → most ≡ 2 ^ p.width → below ≡ met_below p place (n % 2 ^ place) → below ≡ met_below p p.width n
bound_below p place n most below ge le few other is was =
    let lt : n < 2 ^ p.width = subst (λ (m : ℕ). n < m) is (less n most few other) in
    let same : place ≡ p.width = omega (arith, ge, le) in
    was ∙ ((λ i. met_below p (same i) (n % 2 ^ same i)) ∙ ap (met_below p p.width) (mod-eq_of_lt lt))
