-- The ranges that all places give are the set of the numbers that agree with the pattern.
use Rattle.std.proofs.Common.{◌≡◌, ◌≢◌, ◌∙◌, refl, ap, sym, subst, ℕ, zero, suc, ◌+◌, ◌-◌, ◌^◌, ◌<◌, ◌≤◌, ◌==◌, nat_lt, ℤ, pos, negsuc, ◌+ℤ◌, ◌-ℤ◌, ◌≤ℤ◌, List, length, arith, Bool, true, false, cond, inl, inr, pow-suc}
use Rattle.std.specs.Prelude.{◌&&◌}
use Rattle.std.specs.List.{list_all}
use Rattle.std.specs.Int.{bit_at}
use Rattle.std.proofs.lemmas.Grind.{common_steps}
use Rattle.std.proofs.lemmas.Int.{ints}
use Rattle.std.proofs.lemmas.Bool.Decides.{nat_tests}
use Rattle.std.proofs.lemmas.Nat.Bits.{bit_at_above}
use Rattle.cov_base.specs.Sets.{covers, is_in, is_within, span, written, set_of}
use Rattle.cov_base.proofs.Members.{is_in-filter, is_in-span}
use Rattle.cov_base.proofs.Normal.{covers-below, cases_of}
use Rattle.cov_base.proofs.Runs.{set_of_is, set_of_normal, set_of-written, set_of_numbers}
use Rattle.bin_spec.specs.Parts.{places}
use Rattle.bin_spec.specs.Types.{lowest, highest, domain}
use Rattle.wildcard_bins.specs.declared.pattern.Pattern.{Pattern}
use Rattle.wildcard_bins.specs.Patterns.{bits_of, allows, agrees, agreeing}
use Rattle.wildcard_bins.specs.Halves.{has_half, IsLowestFixed, count_above, ranges_above}
use Rattle.wildcard_bins.proofs.Bits.{all_same, bit_at-add_same, bit_at-add_below}
use Rattle.wildcard_bins.proofs.Agreement.{too_low, too_high, agrees_inside}
use Rattle.wildcard_bins.proofs.Levels.{meets, levels, normal_from, covers-above, is_past, IsLevel, length-ranges_above}

half_twice : (w : ℕ) → 1 ≤ w → 2 ^ (w - 1) + 2 ^ (w - 1) ≡ 2 ^ w
half_twice zero h = absurd (omega arith)
half_twice (suc w) h = half (omega arith)
  where
    half : suc w - 1 ≡ w → 2 ^ (suc w - 1) + 2 ^ (suc w - 1) ≡ 2 ^ suc w
    half e = rw e (omega (arith, pow-suc 2 w))

less : (a b : ℕ) → nat_lt a b ≡ true → a < b
less a b e = grind (arith, nat_tests)

more : (a b : ℕ) → nat_lt a b ≡ false → b ≤ a
more a b e = grind (arith, nat_tests)

equal : (a b : ℕ) → (a == b) ≡ true → a ≡ b
equal a b e = grind (arith, nat_tests)

unequal : (a b : ℕ) → (a == b) ≡ false → a ≢ b
unequal a b e = grind (arith, nat_tests)

-- the bits of a number so far above the lowest one
own_unsigned : (w u place : ℕ) → bit_at u place ≡ bit_at (bits_of w (pos 0 +ℤ pos u)) place
own_unsigned w u place = ap (λ (z : ℤ). bit_at (bits_of w z) place) (is u)
  where
    is : (u : ℕ) → pos u ≡ pos 0 +ℤ pos u
    is u = omega (arith, ints)

-- below 0
own_low : (w u place : ℕ) → 1 ≤ w → u < 2 ^ (w - 1) → place < w → cond (place + 1 == w) (1 - bit_at u place) (bit_at u place) ≡ bit_at (bits_of w ((pos 0 -ℤ pos (2 ^ (w - 1))) +ℤ pos u)) place
own_low w u place some small within =
    let number : (pos 0 -ℤ pos (2 ^ (w - 1))) +ℤ pos u ≡ negsuc (2 ^ (w - 1) - suc u) = below (2 ^ (w - 1)) u small in
    let bits : 2 ^ w - suc (2 ^ (w - 1) - suc u) ≡ u + 2 ^ (w - 1) = omega (arith, half_twice w some, small) in
    by (place + 1 == w) refl ∙ sym (ap (λ (z : ℤ). bit_at (bits_of w z) place) number ∙ ap (λ (n : ℕ). bit_at n place) bits)
  where
    below : (h u : ℕ) → u < h → (pos 0 -ℤ pos h) +ℤ pos u ≡ negsuc (h - suc u)
    below h u lt = omega (arith, ints, lt)

    by : (t : Bool) → (place + 1 == w) ≡ t → cond t (1 - bit_at u place) (bit_at u place) ≡ bit_at (u + 2 ^ (w - 1)) place
    by true e =
        let top : place ≡ w - 1 = omega (arith, equal (place + 1) w e) in
        let none : bit_at u place ≡ 0 = bit_at_above u (w - 1) place small (omega (arith, top)) in
        ap (λ (n : ℕ). 1 - n) none ∙ sym (ap (bit_at (u + 2 ^ (w - 1))) top ∙ bit_at-add_same u (w - 1) small)
    by false e = sym (bit_at-add_below u (w - 1) place (omega (arith, within, unequal (place + 1) w e)))

-- from 0 on
own_high : (w u place : ℕ) → 1 ≤ w → u < 2 ^ (w - 1) → place < w → cond (place + 1 == w) (1 - bit_at (u + 2 ^ (w - 1)) place) (bit_at (u + 2 ^ (w - 1)) place) ≡ bit_at (bits_of w ((pos 0 -ℤ pos (2 ^ (w - 1))) +ℤ pos (u + 2 ^ (w - 1)))) place
own_high w u place some small within =
    by (place + 1 == w) refl ∙ ap (λ (z : ℤ). bit_at (bits_of w z) place) (above (2 ^ (w - 1)) u)
  where
    above : (h u : ℕ) → pos u ≡ (pos 0 -ℤ pos h) +ℤ pos (u + h)
    above h u = omega (arith, ints)

    by : (t : Bool) → (place + 1 == w) ≡ t → cond t (1 - bit_at (u + 2 ^ (w - 1)) place) (bit_at (u + 2 ^ (w - 1)) place) ≡ bit_at u place
    by true e =
        let top : place ≡ w - 1 = omega (arith, equal (place + 1) w e) in
        let none : bit_at u place ≡ 0 = bit_at_above u (w - 1) place small (omega (arith, top)) in
        ap (λ (n : ℕ). 1 - n) (ap (bit_at (u + 2 ^ (w - 1))) top ∙ bit_at-add_same u (w - 1) small) ∙ sym none
    by false e = bit_at-add_below u (w - 1) place (omega (arith, within, unequal (place + 1) w e))

own_is : (w : ℕ) (s : Bool) (u place : ℕ) → 1 ≤ w → u < 2 ^ w → place < w → cond (s && place + 1 == w) (1 - bit_at u place) (bit_at u place) ≡ bit_at (bits_of w (lowest w s +ℤ pos u)) place
own_is w false u place some small within = own_unsigned w u place
own_is w true u place some small within = by (nat_lt u (2 ^ (w - 1))) refl
  where
    by : (t : Bool) → nat_lt u (2 ^ (w - 1)) ≡ t → cond (place + 1 == w) (1 - bit_at u place) (bit_at u place) ≡ bit_at (bits_of w ((pos 0 -ℤ pos (2 ^ (w - 1))) +ℤ pos u)) place
    by true e = own_low w u place some (less u (2 ^ (w - 1)) e) within
    by false e =
        let whole : (u - 2 ^ (w - 1)) + 2 ^ (w - 1) ≡ u = omega (arith, more u (2 ^ (w - 1)) e) in
        subst (λ (n : ℕ). cond (place + 1 == w) (1 - bit_at n place) (bit_at n place) ≡ bit_at (bits_of w ((pos 0 -ℤ pos (2 ^ (w - 1))) +ℤ pos n)) place) whole (own_high w (u - 2 ^ (w - 1)) place some (omega (arith, small, half_twice w some, more u (2 ^ (w - 1)) e)) within)

-- a number of the pattern's width and sign meets it at all places where it agrees
meets_all : (p : Pattern) (u : ℕ) → 1 ≤ p.width → u < 2 ^ p.width → meets p p.width u ≡ list_all (λ place. allows p place (bit_at (bits_of p.width (lowest p.width p.signed +ℤ pos u)) place)) (places p.width)
unfolding meets
meets_all p u some small = all_same (λ place. has_half p place (bit_at u place)) (λ place. allows p place (bit_at (bits_of p.width (lowest p.width p.signed +ℤ pos u)) place)) p.width (λ place within. ap (allows p place) (own_is p.width p.signed u place some small within))

-- the highest number
top_is : (w : ℕ) (s : Bool) → 1 ≤ w → highest w s ≡ (lowest w s +ℤ pos (2 ^ w)) -ℤ pos 1
top_is w true some = omega (arith, ints, half_twice w some)
top_is w false some = omega (arith, ints)

distance : (low v : ℤ) → low ≤ℤ v → (u : ℕ) × (v ≡ low +ℤ pos u)
distance low v le = by (v -ℤ low) refl
  where
    by : (z : ℤ) → v -ℤ low ≡ z → (u : ℕ) × (v ≡ low +ℤ pos u)
    by (pos n) e = (n, omega (arith, ints, e))
    by (negsuc n) e = absurd (omega (arith, ints, e, le))

covered : (p : Pattern) (rs : List (ℤ × ℤ)) (apart : Bool) → 1 ≤ p.width → IsLevel p (lowest p.width p.signed) p.width apart rs → (v : ℤ) → covers rs v ≡ agrees p v
covered p rs apart some level v =
    elim (cases_of v (lowest p.width p.signed)) [
      | inl below ↦ covers-below (lowest p.width p.signed) rs v (normal_from (lowest p.width p.signed) (2 ^ p.width) apart rs level.placed) below ∙ too_low p v below
      | inr from ↦
          elim (cases_of (highest p.width p.signed) v) [
            | inl above ↦ covers-above (lowest p.width p.signed +ℤ pos level.placed.to) v rs level.placed.ends (omega (arith, ints, above, top_is p.width p.signed some, level.placed.below)) ∙ too_high p v above
            | inr to ↦
                let far = distance (lowest p.width p.signed) v from in
                let small : far.0 < 2 ^ p.width = omega (arith, ints, far.1, to, top_is p.width p.signed some) in
                ap (covers rs) far.1 ∙ (level.has.allowed far.0 small ∙ (meets_all p far.0 some small ∙ (ap (λ (z : ℤ). list_all (λ place. allows p place (bit_at (bits_of p.width z) place)) (places p.width)) (sym far.1) ∙ agrees_inside p v from to)))
          ]
    ]

pub is_in-agreeing : (p : Pattern) (v : ℤ) → is_in (agreeing p) v ≡ agrees p v
unfolding agreeing agrees
is_in-agreeing p v =
    is_in-filter (λ v. is_within v (domain p.width p.signed) && list_all (λ place. allows p place (bit_at (bits_of p.width v) place)) (places p.width)) (span (domain p.width p.signed)) v
    ∙ twice (is_in (span (domain p.width p.signed)) v) (is_within v (domain p.width p.signed)) (list_all (λ place. allows p place (bit_at (bits_of p.width v) place)) (places p.width)) (is_in-span (domain p.width p.signed) v)
  where
    twice : (s t r : Bool) → s ≡ t → (s && (t && r)) ≡ (t && r)
    twice s t r e = grind (arith, common_steps, e)

-- the ranges of all places
pub ranges_are : (p : Pattern) (first : ℕ) → 1 ≤ p.width → IsLowestFixed p first → ranges_above p first (lowest p.width p.signed) (p.width - first) ≡ set_of (agreeing p)
ranges_are p first some f =
    let all : first + (p.width - first) ≡ p.width = omega (arith, f.within) in
    let level = subst (λ (k : ℕ). IsLevel p (lowest p.width p.signed) k (is_past (p.width - first)) (ranges_above p first (lowest p.width p.signed) (p.width - first))) all (levels p first (lowest p.width p.signed) (p.width - first) f (omega (arith, all))) in
    set_of_is (lowest p.width p.signed) (ranges_above p first (lowest p.width p.signed) (p.width - first)) (agreeing p)
    (normal_from (lowest p.width p.signed) (2 ^ p.width) (is_past (p.width - first)) (ranges_above p first (lowest p.width p.signed) (p.width - first)) level.placed)
    (λ v. covered p (ranges_above p first (lowest p.width p.signed) (p.width - first)) (is_past (p.width - first)) some level v ∙ sym (is_in-agreeing p v))

pub range_count_is : (p : Pattern) (first count : ℕ) → 1 ≤ p.width → IsLowestFixed p first → count ≡ count_above p first (p.width - first) → count ≡ length (set_of (agreeing p))
range_count_is p first count some f is = is ∙ (sym (length-ranges_above p first (lowest p.width p.signed) (p.width - first)) ∙ ap length (ranges_are p first some f))

-- the set of the ranges
pub set_again : (xs : List ℤ) (rs : List (ℤ × ℤ)) → rs ≡ set_of xs → set_of (written rs) ≡ set_of xs
set_again xs rs is = let normal = set_of_normal xs in ap (λ (ss : List (ℤ × ℤ)). set_of (written ss)) is ∙ sym (set_of-written normal.0 (set_of xs) normal.1)

pub numbers_agree : (p : Pattern) (set : List (ℤ × ℤ)) → set ≡ set_of (agreeing p) → (v : ℤ) → is_in (written set) v ≡ agrees p v
numbers_agree p set is v = ap (λ (ss : List (ℤ × ℤ)). is_in (written ss) v) is ∙ (set_of_numbers (agreeing p) v ∙ is_in-agreeing p v)
