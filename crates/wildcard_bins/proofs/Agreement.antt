-- Whether a number agrees with a pattern, by the bits that differ and the places that aren't free.
use Rattle.std.proofs.Common.{◌≡◌, ◌∙◌, refl, ap, sym, subst, ℕ, zero, suc, ◌+◌, ◌-◌, ◌%◌, ◌^◌, ◌<◌, ◌≤◌, ◌==◌, min, nat_eq, nat_lt, ℤ, ◌≤ℤ◌, ◌<ℤ◌, arith, Bool, true, false, inl, inr, w64, bit_and}
use Rattle.std.specs.Prelude.{◌&&◌, ◌||◌, ◌⊎◌, bit_xor}
use Rattle.std.specs.List.{list_all}
use Rattle.std.specs.Int.{bit_at, trailing_ones}
use Rattle.std.proofs.lemmas.Grind.{common_steps}
use Rattle.std.proofs.lemmas.Int.{ints}
use Rattle.std.proofs.lemmas.Bool.Decides.{nat_tests}
use Rattle.std.proofs.lemmas.Nat.Bits.{bit_at-lt, bit_at_and, bit_at_xor, bit_at_not, bit_at_ones, bit_at_ones_above, bit_at-zero, same_from_bits, bit_at-trailing_ones}
use Rattle.cov_base.specs.Sets.{is_within}
use Rattle.bin_spec.specs.Parts.{places}
use Rattle.bin_spec.specs.Types.{lowest, highest}
use Rattle.wildcard_bins.specs.declared.pattern.Pattern.{Pattern}
use Rattle.wildcard_bins.specs.Patterns.{bits_of, allows, agrees}
use Rattle.wildcard_bins.specs.Halves.{IsLowestFixed}
use Rattle.wildcard_bins.proofs.Bits.{each_of_all, all_of_each}

-- the bits that differ at places that aren't free
abbrev pub differing : Pattern → ℕ → ℕ
differing p bits = bit_and (bit_xor bits p.bits) (bit_and (18446744073709551615 - p.free) (2 ^ p.width - 1))

-- one bit of them
differs_at : (p : Pattern) (bits i : ℕ) → p.width ≤ 64 → p.free < 2 ^ 64 → i < p.width → bit_at (differing p bits) i ≡ min ((bit_at bits i + bit_at p.bits i) % 2) (1 - bit_at p.free i)
differs_at p bits i h f lt =
    let fixed : bit_at (18446744073709551615 - p.free) i ≡ 1 - bit_at p.free i = bit_at_not w64 p.free i f (omega arith) in
    let low : bit_at (2 ^ p.width - 1) i ≡ 1 = bit_at_ones p.width i lt in
    bit_at_and (bit_xor bits p.bits) (bit_and (18446744073709551615 - p.free) (2 ^ p.width - 1)) i
    ∙ (both (bit_at_xor bits p.bits i) (bit_at_and (18446744073709551615 - p.free) (2 ^ p.width - 1) i)
    ∙ ap (λ (n : ℕ). min ((bit_at bits i + bit_at p.bits i) % 2) n) (both fixed low ∙ one (bit_at p.free i)))
  where
    both : {a b c d : ℕ} → a ≡ c → b ≡ d → min a b ≡ min c d
    both e g = λ i. min (e i) (g i)

    one : (n : ℕ) → min (1 - n) 1 ≡ 1 - n
    one n = omega arith

differs_above : (p : Pattern) (bits i : ℕ) → p.width ≤ 64 → p.width ≤ i → bit_at (differing p bits) i ≡ 0
differs_above p bits i h le =
    let none : bit_at (2 ^ p.width - 1) i ≡ 0 = bit_at_ones_above p.width i le in
    bit_at_and (bit_xor bits p.bits) (bit_and (18446744073709551615 - p.free) (2 ^ p.width - 1)) i
    ∙ (ap (λ (n : ℕ). min (bit_at (bit_xor bits p.bits) i) n) (bit_at_and (18446744073709551615 - p.free) (2 ^ p.width - 1) i ∙ ap (λ (n : ℕ). min (bit_at (18446744073709551615 - p.free) i) n) none) ∙ nothing (bit_at (bit_xor bits p.bits) i) (bit_at (18446744073709551615 - p.free) i))
  where
    nothing : (a b : ℕ) → min a (min b 0) ≡ 0
    nothing a b = omega arith

zero_or_one : (n : ℕ) → n < 2 → (n ≡ 0) ⊎ (n ≡ 1)
zero_or_one zero h = inl refl
zero_or_one (suc zero) h = inr refl
zero_or_one (suc (suc n)) h = absurd (omega arith)

-- a bit is allowed where it doesn't differ or the place is free
allowed : (b w f : ℕ) → b < 2 → w < 2 → f < 2 → min ((b + w) % 2) (1 - f) ≡ 0 → (f == 1 || b == w) ≡ true
allowed zero zero f x y z e = grind (arith, common_steps, nat_tests)
allowed zero (suc zero) zero x y z e = absurd cc
allowed zero (suc zero) (suc zero) x y z e = refl
allowed (suc zero) zero zero x y z e = absurd cc
allowed (suc zero) zero (suc zero) x y z e = refl
allowed (suc zero) (suc zero) zero x y z e = refl
allowed (suc zero) (suc zero) (suc zero) x y z e = refl
allowed (suc (suc b)) w f x y z e = absurd (omega arith)
allowed zero (suc (suc w)) f x y z e = absurd (omega arith)
allowed (suc zero) (suc (suc w)) f x y z e = absurd (omega arith)
allowed zero (suc zero) (suc (suc f)) x y z e = absurd (omega arith)
allowed (suc zero) zero (suc (suc f)) x y z e = absurd (omega arith)
allowed (suc zero) (suc zero) (suc (suc f)) x y z e = absurd (omega arith)

alike : (b w f : ℕ) → b < 2 → w < 2 → f < 2 → (f == 1 || b == w) ≡ true → min ((b + w) % 2) (1 - f) ≡ 0
alike zero zero zero x y z e = refl
alike zero zero (suc zero) x y z e = refl
alike zero (suc zero) zero x y z e = absurd cc
alike zero (suc zero) (suc zero) x y z e = refl
alike (suc zero) zero zero x y z e = absurd cc
alike (suc zero) zero (suc zero) x y z e = refl
alike (suc zero) (suc zero) zero x y z e = refl
alike (suc zero) (suc zero) (suc zero) x y z e = refl
alike (suc (suc b)) w f x y z e = absurd (omega arith)
alike zero (suc (suc w)) f x y z e = absurd (omega arith)
alike (suc zero) (suc (suc w)) f x y z e = absurd (omega arith)
alike zero zero (suc (suc f)) x y z e = absurd (omega arith)
alike zero (suc zero) (suc (suc f)) x y z e = absurd (omega arith)
alike (suc zero) zero (suc (suc f)) x y z e = absurd (omega arith)
alike (suc zero) (suc zero) (suc (suc f)) x y z e = absurd (omega arith)

same_tests : (a b : Bool) → (a ≡ true → b ≡ true) → (b ≡ true → a ≡ true) → a ≡ b
same_tests true b f g = sym (f refl)
same_tests false true f g = g refl
same_tests false false f g = refl

-- nothing differs where each place allows its bit
pub none_differs : (p : Pattern) (bits : ℕ) → p.width ≤ 64 → p.free < 2 ^ 64 → nat_eq (differing p bits) 0 ≡ list_all (λ place. allows p place (bit_at bits place)) (places p.width)
none_differs p bits h f = same_tests (nat_eq (differing p bits) 0) (list_all (λ place. allows p place (bit_at bits place)) (places p.width)) there back
  where
    is_zero : (n : ℕ) → nat_eq n 0 ≡ true → n ≡ 0
    is_zero n e = grind (arith, nat_tests)

    zero_is : (n : ℕ) → n ≡ 0 → nat_eq n 0 ≡ true
    zero_is n e = grind (arith, nat_tests)

    there : nat_eq (differing p bits) 0 ≡ true → list_all (λ place. allows p place (bit_at bits place)) (places p.width) ≡ true
    there e = all_of_each (λ place. allows p place (bit_at bits place)) p.width (λ i lt.
        allowed (bit_at bits i) (bit_at p.bits i) (bit_at p.free i) (bit_at-lt bits i) (bit_at-lt p.bits i) (bit_at-lt p.free i) (sym (differs_at p bits i h f lt) ∙ (ap (λ (n : ℕ). bit_at n i) (is_zero (differing p bits) e) ∙ bit_at-zero i)))

    place_is : list_all (λ place. allows p place (bit_at bits place)) (places p.width) ≡ true → (i : ℕ) → (t : Bool) → nat_lt i p.width ≡ t → bit_at (differing p bits) i ≡ bit_at 0 i
    place_is e i true lt = differs_at p bits i h f (less i p.width lt) ∙ (alike (bit_at bits i) (bit_at p.bits i) (bit_at p.free i) (bit_at-lt bits i) (bit_at-lt p.bits i) (bit_at-lt p.free i) (each_of_all (λ place. allows p place (bit_at bits place)) p.width e i (less i p.width lt)) ∙ sym (bit_at-zero i))
      where
        less : (a b : ℕ) → nat_lt a b ≡ true → a < b
        less a b e = grind (arith, nat_tests)
    place_is e i false ge = differs_above p bits i h (more i p.width ge) ∙ sym (bit_at-zero i)
      where
        more : (a b : ℕ) → nat_lt a b ≡ false → b ≤ a
        more a b e = grind (arith, nat_tests)

    back : list_all (λ place. allows p place (bit_at bits place)) (places p.width) ≡ true → nat_eq (differing p bits) 0 ≡ true
    back e = zero_is (differing p bits) (same_from_bits (differing p bits) 0 (λ i. place_is e i (nat_lt i p.width) refl))

-- ---- what `matches` answers

pub too_low : (p : Pattern) (v : ℤ) → v <ℤ lowest p.width p.signed → false ≡ agrees p v
unfolding agrees
too_low p v lt = outside (lowest p.width p.signed) (highest p.width p.signed) (list_all (λ place. allows p place (bit_at (bits_of p.width v) place)) (places p.width)) lt
  where
    outside : (a b : ℤ) (t : Bool) → v <ℤ a → false ≡ (is_within v (a, b) && t)
    outside a b t lt = grind (arith, common_steps, ints)

pub too_high : (p : Pattern) (v : ℤ) → highest p.width p.signed <ℤ v → false ≡ agrees p v
unfolding agrees
too_high p v lt = outside (lowest p.width p.signed) (highest p.width p.signed) (list_all (λ place. allows p place (bit_at (bits_of p.width v) place)) (places p.width)) lt
  where
    outside : (a b : ℤ) (t : Bool) → b <ℤ v → false ≡ (is_within v (a, b) && t)
    outside a b t lt = grind (arith, common_steps, ints)

pub agrees_inside : (p : Pattern) (v : ℤ) → lowest p.width p.signed ≤ℤ v → v ≤ℤ highest p.width p.signed → list_all (λ place. allows p place (bit_at (bits_of p.width v) place)) (places p.width) ≡ agrees p v
unfolding agrees
agrees_inside p v low high = inside (lowest p.width p.signed) (highest p.width p.signed) (list_all (λ place. allows p place (bit_at (bits_of p.width v) place)) (places p.width)) low high
  where
    inside : (a b : ℤ) (t : Bool) → a ≤ℤ v → v ≤ℤ b → t ≡ (is_within v (a, b) && t)
    inside a b t low high = grind (arith, common_steps, ints)

pub matched : (p : Pattern) (v : ℤ) (bits : ℕ) → p.width ≤ 64 → p.free < 2 ^ 64 → lowest p.width p.signed ≤ℤ v → v ≤ℤ highest p.width p.signed → bits ≡ bits_of p.width v → nat_eq (differing p bits) 0 ≡ agrees p v
matched p v bits h f low high is = none_differs p bits h f ∙ (ap (λ (n : ℕ). list_all (λ place. allows p place (bit_at n place)) (places p.width)) is ∙ agrees_inside p v low high)

-- ---- the lowest place that isn't free

all_ones : trailing_ones w64 (2 ^ 64 - 1) ≡ 64
unfolding lib.Count.count_trailing_zeros
all_ones = refl

pub lowest_fixed : (p : Pattern) (ones first : ℕ) → p.width ≤ 64 → p.free < 2 ^ 64 → ones ≡ trailing_ones w64 p.free → first ≡ min ones p.width → IsLowestFixed p first
lowest_fixed p ones first h f is least = by (nat_lt (p.free + 1) (2 ^ 64)) refl
  where
    less : (a b : ℕ) → nat_lt a b ≡ true → a < b
    less a b e = grind (arith, nat_tests)

    more : (a b : ℕ) → nat_lt a b ≡ false → b ≤ a
    more a b e = grind (arith, nat_tests)

    by : (t : Bool) → nat_lt (p.free + 1) (2 ^ 64) ≡ t → IsLowestFixed p first
    by true lt =
        let place = bit_at-trailing_ones w64 p.free (less (p.free + 1) (2 ^ 64) lt) in
        record {
          within = omega arith;
          free = λ i lt. place.2 i (omega (arith, is, least, lt));
          fixed = λ lt. subst (λ (n : ℕ). bit_at p.free n ≡ 0) (omega (arith, is, least, lt)) place.1;
        }
    by false ge =
        let all : p.free ≡ 2 ^ 64 - 1 = omega (arith, f, more (p.free + 1) (2 ^ 64) ge) in
        let many : ones ≡ 64 = is ∙ (ap (trailing_ones w64) all ∙ all_ones) in
        record {
          within = omega arith;
          free = λ i lt. ap (λ (n : ℕ). bit_at n i) all ∙ bit_at_ones 64 i (omega (arith, h, least, lt));
          fixed = λ lt. absurd (omega (arith, many, least, lt, h));
        }
