-- The loops over the places of a pattern, from the lowest one on that isn't free.
use Rattle.std.proofs.Common.{◌≡◌, ◌∙◌, refl, ap, sym, subst, ℕ, zero, suc, ◌+◌, ◌-◌, ◌*◌, ◌^◌, ◌<◌, ◌≤◌, ℤ, pos, ◌+ℤ◌, ◌-ℤ◌, ◌≤ℤ◌, List, [], ◌∷◌, length, arith, Bool, true, false, All, pow-suc}
use Rattle.std.specs.Int.{bit_at}
use Rattle.std.proofs.lemmas.Int.{ints}
use Rattle.std.proofs.lemmas.Nat.{pow_pos}
use Rattle.std.proofs.lemmas.Nat.Bits.{bit_at-lt}
use Rattle.std.proofs.Math.Nat.{pow-le-pow_right, mul-le-mul}
use Rattle.cov_base.specs.Sets.{greatest, set_of, written}
use Rattle.bin_spec.specs.Types.{lowest}
use Rattle.wildcard_bins.specs.declared.pattern.Pattern.{Pattern}
use Rattle.wildcard_bins.specs.Patterns.{agreeing}
use Rattle.wildcard_bins.specs.Halves.{has_half, halves, IsMovable, IsLowestFixed, count_above, ranges_above}
use Rattle.wildcard_bins.proofs.Levels.{levels, level_movable, is_past}
use Rattle.wildcard_bins.proofs.Whole.{ranges_are, range_count_is, set_again}

next_is : (first place : ℕ) → first ≤ place → place + 1 - first ≡ suc (place - first)
next_is first place le = omega arith

back_is : (first place : ℕ) → first ≤ place → first + (place - first) ≡ place
back_is first place le = omega arith

-- ---- the count

pub count_step : (p : Pattern) (first place count bit : ℕ) → first ≤ place → count ≡ count_above p first (place - first) → bit ≡ bit_at p.free place → count * (1 + bit) ≡ count_above p first (place + 1 - first)
count_step p first place count bit le was is =
    both was (is ∙ ap (bit_at p.free) (sym (back_is first place le))) ∙ ap (count_above p first) (sym (next_is first place le))
  where
    both : {a b c d : ℕ} → a ≡ c → b ≡ d → a * (1 + b) ≡ c * (1 + d)
    both e f = λ i. e i * (1 + f i)

pub bound_step : (p : Pattern) (first place count bit : ℕ) → IsLowestFixed p first → first ≤ place → place < p.width → count ≤ 2 ^ (place - first - 1) → bit ≡ bit_at p.free place → count * (1 + bit) ≤ 2 ^ (place + 1 - first - 1)
bound_step p first place count bit f le lt bound is = by (place - first) refl
  where
    twice : (n b m : ℕ) → n ≤ m → b < 2 → n * (1 + b) ≤ m * 2
    twice n b m h k = mul-le-mul h (omega arith)

    by : (d : ℕ) → place - first ≡ d → count * (1 + bit) ≤ 2 ^ (place + 1 - first - 1)
    by zero e =
        let here : place ≡ first = omega (arith, e, le) in
        let none : bit ≡ 0 = is ∙ (ap (bit_at p.free) here ∙ f.fixed (omega (arith, here, lt))) in
        let one : count * (1 + bit) ≡ count = ap (λ (b : ℕ). count * (1 + b)) none ∙ times_one count in
        let same : 2 ^ (place + 1 - first - 1) ≡ 2 ^ (place - first - 1) = ap (λ (n : ℕ). 2 ^ n) (omega (arith, e, le)) in
        omega (arith, bound, one, same)
      where
        times_one : (n : ℕ) → n * (1 + 0) ≡ n
        times_one n = omega arith
    by (suc d) e =
        let power : 2 ^ (place + 1 - first - 1) ≡ 2 ^ (place - first - 1) * 2 = ap (λ (n : ℕ). 2 ^ n) (omega (arith, e, le)) ∙ pow-suc 2 (place - first - 1) in
        let double : count * (1 + bit) ≤ 2 ^ (place - first - 1) * 2 = twice count bit (2 ^ (place - first - 1)) bound (omega (arith, is, bit_at-lt p.free place)) in
        omega (arith, power, double)

pub count_fits : (p : Pattern) (first place count bit : ℕ) → IsLowestFixed p first → first ≤ place → place < p.width → p.width ≤ 64 → count ≤ 2 ^ (place - first - 1) → bit ≡ bit_at p.free place → count * (1 + bit) < 2 ^ 64
count_fits p first place count bit f le lt wide bound is =
    let small : 2 ^ (place + 1 - first - 1) ≤ 2 ^ 63 = pow-le-pow_right {n = 2} (omega arith) {i = place + 1 - first - 1} {j = 63} (omega (arith, lt, wide)) in
    omega (arith, small, bound_step p first place count bit f le lt bound is)

pub count_end : (p : Pattern) (first place count : ℕ) → 1 ≤ p.width → IsLowestFixed p first → p.width ≤ place → place ≤ p.width → count ≡ count_above p first (place - first) → count ≡ length (set_of (agreeing p))
count_end p first place count some f past within was = range_count_is p first count some f (was ∙ ap (λ (n : ℕ). count_above p first (n - first)) (equal place p.width past within))
  where
    equal : (a b : ℕ) → b ≤ a → a ≤ b → a ≡ b
    equal a b h k = omega arith

-- ---- the ranges

pub ranges_init : (p : Pattern) (first many : ℕ) (low a b : ℤ) (rs : List (ℤ × ℤ)) → a ≡ low → many ≡ 2 ^ first → b ≡ a +ℤ pos (many - 1) → rs ≡ (a, b) ∷ [] → rs ≡ ranges_above p first low (first - first)
ranges_init p first many low a b rs is power end one =
    one ∙ (pair is (last end is power (pow_pos first)) ∙ ap (ranges_above p first low) (zero_is first))
  where
    zero_is : (n : ℕ) → 0 ≡ n - n
    zero_is n = omega arith

    last : b ≡ a +ℤ pos (many - 1) → a ≡ low → many ≡ 2 ^ first → 0 < 2 ^ first → b ≡ (low +ℤ pos (2 ^ first)) -ℤ pos 1
    last end is power some = omega (arith, ints, end, is, power, some)

    pair : {c d e g : ℤ} → c ≡ e → d ≡ g → ◌≡◌ {A = List (ℤ × ℤ)} ((c, d) ∷ []) ((e, g) ∷ [])
    pair x y = λ i. (x i, y i) ∷ []

room : (w : ℕ) (s : Bool) (k : ℕ) → k < w → w ≤ 64 → (lowest w s +ℤ pos (2 ^ suc k)) ≤ℤ (greatest +ℤ pos 1)
room w s k lt wide = by s (pow-le-pow_right {n = 2} (omega arith) {i = suc k} {j = 64} (omega arith))
  where
    by : (s : Bool) → 2 ^ suc k ≤ 2 ^ 64 → (lowest w s +ℤ pos (2 ^ suc k)) ≤ℤ (greatest +ℤ pos 1)
    by true h = omega (arith, ints, h)
    by false h = omega (arith, ints, h)

pub ranges_movable : (p : Pattern) (first place step : ℕ) (rs slice : List (ℤ × ℤ)) → IsLowestFixed p first → first ≤ place → place < p.width → p.width ≤ 64 → step ≡ 2 ^ place → slice ≡ rs → rs ≡ ranges_above p first (lowest p.width p.signed) (place - first) → All (IsMovable step) slice
ranges_movable p first place step rs slice f le lt wide power same was =
    let at = back_is first place le in
    let level = levels p first (lowest p.width p.signed) (place - first) f (omega (arith, at, lt)) in
    let enough = room p.width p.signed (first + (place - first)) (omega (arith, at, lt)) wide in
    let movable = level_movable p (lowest p.width p.signed) (first + (place - first)) (is_past (place - first)) (ranges_above p first (lowest p.width p.signed) (place - first)) level enough in
    let there : 2 ^ (first + (place - first)) ≡ step = ap (λ (n : ℕ). 2 ^ n) at ∙ sym power in
    subst (λ (n : ℕ). All (IsMovable n) slice) there (subst (λ (xs : List (ℤ × ℤ)). All (IsMovable (2 ^ (first + (place - first)))) xs) (sym (same ∙ was)) movable)

pub ranges_step : (p : Pattern) (first place step : ℕ) (low : ℤ) (lower upper : Bool) (rs slice new : List (ℤ × ℤ)) → first ≤ place → step ≡ 2 ^ place → lower ≡ has_half p place 0 → upper ≡ has_half p place 1 → slice ≡ rs → rs ≡ ranges_above p first low (place - first)
    → new ≡ halves lower upper step slice → new ≡ ranges_above p first low (place + 1 - first)
ranges_step p first place step low lower upper rs slice new le power l u same was is =
    let at = back_is first place le in
    is ∙ (all (l ∙ ap (λ (k : ℕ). has_half p k 0) (sym at)) (u ∙ ap (λ (k : ℕ). has_half p k 1) (sym at)) (power ∙ ap (λ (k : ℕ). 2 ^ k) (sym at)) (same ∙ was) ∙ ap (ranges_above p first low) (sym (next_is first place le)))
  where
    all : {a b c d : Bool} {m n : ℕ} {xs ys : List (ℤ × ℤ)} → a ≡ c → b ≡ d → m ≡ n → xs ≡ ys → halves a b m xs ≡ halves c d n ys
    all x y z v = λ i. halves (x i) (y i) (z i) (v i)

pub ranges_end : (p : Pattern) (first place : ℕ) (rs : List (ℤ × ℤ)) → 1 ≤ p.width → IsLowestFixed p first → p.width ≤ place → place ≤ p.width → rs ≡ ranges_above p first (lowest p.width p.signed) (place - first) → rs ≡ set_of (agreeing p)
ranges_end p first place rs some f past within was = was ∙ (ap (λ (n : ℕ). ranges_above p first (lowest p.width p.signed) (n - first)) (equal place p.width past within) ∙ ranges_are p first some f)
  where
    equal : (a b : ℕ) → b ≤ a → a ≤ b → a ≡ b
    equal a b h k = omega arith

pub as_set_is : (p : Pattern) (rs slice set : List (ℤ × ℤ)) → rs ≡ set_of (agreeing p) → slice ≡ rs → set ≡ set_of (written slice) → set ≡ set_of (agreeing p)
as_set_is p rs slice set is same made = made ∙ set_again (agreeing p) slice (same ∙ is)
