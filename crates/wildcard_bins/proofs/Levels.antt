-- The ranges of a pattern, place by place: which numbers they have, and that they are in normal form.
use Rattle.std.proofs.Common.{◌≡◌, ◌∙◌, refl, ap, sym, subst, ℕ, zero, suc, ◌+◌, ◌-◌, ◌*◌, ◌^◌, ◌<◌, ◌≤◌, ◌==◌, nat_lt, ℤ, pos, ◌+ℤ◌, ◌-ℤ◌, ◌≤ℤ◌, ◌<ℤ◌, List, [], ◌∷◌, ◌++◌, length, length-append, map, arith, Bool, true, false, cond, pow-suc, All}
use Rattle.std.specs.Prelude.{◌&&◌, ◌||◌}
use Rattle.std.specs.List.{list_all}
use Rattle.std.specs.Int.{bit_at}
use Rattle.std.proofs.lemmas.Grind.{common_steps}
use Rattle.std.proofs.lemmas.Int.{ints}
use Rattle.std.proofs.lemmas.Bool.Decides.{nat_tests}
use Rattle.std.proofs.lemmas.Nat.{pow_pos}
use Rattle.std.proofs.lemmas.Nat.Bits.{bit_at_above, bit_at-lt}
use Rattle.std.proofs.lemmas.List.{append-nil, length-map}
use Rattle.std.proofs.lemmas.List.Elements.{All-nil, All-cons}
use Rattle.cov_base.specs.Sets.{covers, is_within, IsNormalFrom, EndsBy, greatest}
use Rattle.cov_base.proofs.Merges.{covers-append}
use Rattle.cov_base.proofs.Normal.{covers-below, normal_lower}
use Rattle.bin_spec.specs.Parts.{places}
use Rattle.wildcard_bins.specs.declared.pattern.Pattern.{Pattern}
use Rattle.wildcard_bins.specs.Halves.{own_bit, has_half, moved, IsMovable, halves, IsLowestFixed, count_above, ranges_above}
use Rattle.wildcard_bins.proofs.Bits.{all-suc, all_same, all_of_each, bit_at-add_same, bit_at-add_below}

-- the number so far above the lowest one has allowed bits at the first places
unfoldable pub meets : Pattern → ℕ → ℕ → Bool
meets p k u = list_all (λ place. has_half p place (bit_at u place)) (places k)

meets-suc : (p : Pattern) (k u : ℕ) → meets p (suc k) u ≡ (meets p k u && has_half p k (bit_at u k))
unfolding meets
meets-suc p k u = all-suc (λ place. has_half p place (bit_at u place)) k

meets_same : (p : Pattern) (k u w : ℕ) → ((i : ℕ) → i < k → bit_at u i ≡ bit_at w i) → meets p k u ≡ meets p k w
unfolding meets
meets_same p k u w same = all_same (λ place. has_half p place (bit_at u place)) (λ place. has_half p place (bit_at w place)) k (λ i lt. ap (has_half p i) (same i lt))

meets_lower : (p : Pattern) (k u : ℕ) → u < 2 ^ k → meets p (suc k) u ≡ (meets p k u && has_half p k 0)
meets_lower p k u lt = meets-suc p k u ∙ ap (λ (b : ℕ). meets p k u && has_half p k b) (bit_at_above u k k lt (omega arith))

meets_upper : (p : Pattern) (k u : ℕ) → u < 2 ^ k → meets p (suc k) (u + 2 ^ k) ≡ (meets p k u && has_half p k 1)
meets_upper p k u lt = meets-suc p k (u + 2 ^ k) ∙ both (meets_same p k (u + 2 ^ k) u (λ i below. bit_at-add_below u k i below)) (ap (has_half p k) (bit_at-add_same u k lt))
  where
    both : {a b c d : Bool} → a ≡ c → b ≡ d → (a && b) ≡ (c && d)
    both e f = λ i. e i && f i

-- ---- ranges that are so much higher

covers-moved : (step : ℕ) (rs : List (ℤ × ℤ)) (v : ℤ) → covers (map (moved step) rs) (v +ℤ pos step) ≡ covers rs v
covers-moved step [] v = refl
covers-moved step (r ∷ rs) v = one r.0 r.1 (covers (map (moved step) rs) (v +ℤ pos step)) (covers rs v) (covers-moved step rs v)
  where
    one : (a b : ℤ) (t u : Bool) → t ≡ u → (is_within (v +ℤ pos step) (a +ℤ pos step, b +ℤ pos step) || t) ≡ (is_within v (a, b) || u)
    one a b t u e = grind (arith, common_steps, ints, e)

normal-moved : (step : ℕ) (low bound : ℤ) (rs : List (ℤ × ℤ)) → IsNormalFrom low rs → bound ≡ low +ℤ pos step → IsNormalFrom bound (map (moved step) rs)
normal-moved step low bound [] n e = tt
normal-moved step low bound (r ∷ rs) n e = (omega (arith, ints, n.0, e), omega (arith, ints, n.1), normal-moved step (r.1 +ℤ pos 2) ((r.1 +ℤ pos step) +ℤ pos 2) rs n.2 (omega (arith, ints)))

ends-moved : (step : ℕ) (high bound : ℤ) (rs : List (ℤ × ℤ)) → EndsBy high rs → bound ≡ high +ℤ pos step → EndsBy bound (map (moved step) rs)
ends-moved step high bound [] n e = tt
ends-moved step high bound (r ∷ rs) n e = (omega (arith, ints, n.0, e), ends-moved step high bound rs n.1 e)

normal-append : (low high : ℤ) (rs ss : List (ℤ × ℤ)) → low ≤ℤ (high +ℤ pos 2) → IsNormalFrom low rs → EndsBy high rs → IsNormalFrom (high +ℤ pos 2) ss → IsNormalFrom low (rs ++ ss)
normal-append low high [] ss le n e m = normal_lower low (high +ℤ pos 2) ss m le
normal-append low high (r ∷ rs) ss le n e m = (n.0, n.1, normal-append (r.1 +ℤ pos 2) high rs ss (omega (arith, ints, e.0)) n.2 e.1 m)

ends-append : (high : ℤ) (rs ss : List (ℤ × ℤ)) → EndsBy high rs → EndsBy high ss → EndsBy high (rs ++ ss)
ends-append high [] ss e f = f
ends-append high (r ∷ rs) ss e f = (e.0, ends-append high rs ss e.1 f)

ends_higher : (low high : ℤ) (rs : List (ℤ × ℤ)) → EndsBy low rs → low ≤ℤ high → EndsBy high rs
ends_higher low high [] e le = tt
ends_higher low high (r ∷ rs) e le = (omega (arith, ints, e.0), ends_higher low high rs e.1 le)

-- ---- one level

-- Ranges of numbers that are fewer than `many` above the lowest one: in normal form, `from` being no higher than the
-- first one begins, and `to` no lower than the last one ends; and after the first fixed place a number is between the
-- last one and the first one of the upper half.
pub record IsPlaced (low : ℤ) (many : ℕ) (apart : Bool) (rs : List (ℤ × ℤ)) : Type 0 where
  pub from : ℕ
  pub to : ℕ
  pub order : from ≤ to
  pub below : to < many
  pub gap : apart ≡ true → to + 2 ≤ from + many
  pub normal : IsNormalFrom (low +ℤ pos from) rs
  pub ends : EndsBy (low +ℤ pos to) rs

-- the ranges have the numbers that the first places allow
pub record HasAllowed (p : Pattern) (low : ℤ) (k : ℕ) (rs : List (ℤ × ℤ)) : Type 0 where
  pub allowed : (u : ℕ) → u < 2 ^ k → covers rs (low +ℤ pos u) ≡ meets p k u

pub normal_from : (low : ℤ) (many : ℕ) (apart : Bool) (rs : List (ℤ × ℤ)) → IsPlaced low many apart rs → IsNormalFrom low rs
normal_from low many apart rs at = normal_lower low (low +ℤ pos at.from) rs at.normal (omega (arith, ints))

pub covers-above : (high v : ℤ) (rs : List (ℤ × ℤ)) → EndsBy high rs → high <ℤ v → covers rs v ≡ false
covers-above high v [] e lt = refl
covers-above high v (r ∷ rs) e lt = outside r.0 r.1 (covers rs v) e.0 (covers-above high v rs e.1 lt)
  where
    outside : (a b : ℤ) (t : Bool) → b ≤ℤ high → t ≡ false → (is_within v (a, b) || t) ≡ false
    outside a b t le h = grind (arith, common_steps, ints, h)

-- which numbers the next level has
halves_allowed : (p : Pattern) (low : ℤ) (k : ℕ) (apart : Bool) (rs : List (ℤ × ℤ)) → IsPlaced low (2 ^ k) apart rs → HasAllowed p low k rs → HasAllowed p low (suc k) (halves (has_half p k 0) (has_half p k 1) (2 ^ k) rs)
halves_allowed p low k apart rs at has = record { allowed = λ u lt. by u (nat_lt u (2 ^ k)) refl lt }
  where
    first_part : (t : Bool) (v : ℤ) → covers (cond t rs []) v ≡ (t && covers rs v)
    first_part true v = refl
    first_part false v = refl

    second_part : (t : Bool) (v : ℤ) → covers (cond t (map (moved (2 ^ k)) rs) []) (v +ℤ pos (2 ^ k)) ≡ (t && covers rs v)
    second_part true v = covers-moved (2 ^ k) rs v
    second_part false v = refl

    less : (a b : ℕ) → nat_lt a b ≡ true → a < b
    less a b e = grind (arith, nat_tests)

    more : (a b : ℕ) → nat_lt a b ≡ false → b ≤ a
    more a b e = grind (arith, nat_tests)

    lower_is : (l s c m : Bool) → s ≡ false → c ≡ m → ((l && c) || s) ≡ (m && l)
    lower_is l s c m e f = grind (arith, common_steps, e, f)

    upper_is : (h f c m : Bool) → f ≡ false → c ≡ m → (f || (h && c)) ≡ (m && h)
    upper_is h f c m e g = grind (arith, common_steps, e, g)

    and_false : (t c : Bool) → c ≡ false → (t && c) ≡ false
    and_false t c e = grind (arith, common_steps, e)

    either : {a b c d : Bool} → a ≡ c → b ≡ d → (a || b) ≡ (c || d)
    either e f = λ i. e i || f i

    by : (u : ℕ) → (t : Bool) → nat_lt u (2 ^ k) ≡ t → u < 2 ^ suc k → covers (halves (has_half p k 0) (has_half p k 1) (2 ^ k) rs) (low +ℤ pos u) ≡ meets p (suc k) u
    by u true e lt =
        let small : u < 2 ^ k = less u (2 ^ k) e in
        let back : (low +ℤ pos u) ≡ ((low +ℤ pos u) -ℤ pos (2 ^ k)) +ℤ pos (2 ^ k) = omega (arith, ints) in
        let none : covers rs ((low +ℤ pos u) -ℤ pos (2 ^ k)) ≡ false = covers-below low rs ((low +ℤ pos u) -ℤ pos (2 ^ k)) (normal_from low (2 ^ k) apart rs at) (omega (arith, ints, small)) in
        let second : covers (cond (has_half p k 1) (map (moved (2 ^ k)) rs) []) (low +ℤ pos u) ≡ false =
        ap (covers (cond (has_half p k 1) (map (moved (2 ^ k)) rs) [])) back ∙ (second_part (has_half p k 1) ((low +ℤ pos u) -ℤ pos (2 ^ k)) ∙ and_false (has_half p k 1) (covers rs ((low +ℤ pos u) -ℤ pos (2 ^ k))) none) in
        covers-append (cond (has_half p k 0) rs []) (cond (has_half p k 1) (map (moved (2 ^ k)) rs) []) (low +ℤ pos u)
        ∙ (ap (λ (t : Bool). t || covers (cond (has_half p k 1) (map (moved (2 ^ k)) rs) []) (low +ℤ pos u)) (first_part (has_half p k 0) (low +ℤ pos u))
        ∙ (lower_is (has_half p k 0) (covers (cond (has_half p k 1) (map (moved (2 ^ k)) rs) []) (low +ℤ pos u)) (covers rs (low +ℤ pos u)) (meets p k u) second (has.allowed u small) ∙ sym (meets_lower p k u small)))
    by u false e lt =
        let large : 2 ^ k ≤ u = more u (2 ^ k) e in
        let small : u - 2 ^ k < 2 ^ k = omega (arith, large, lt, pow-suc 2 k) in
        let whole : (u - 2 ^ k) + 2 ^ k ≡ u = omega (arith, large) in
        let up : (low +ℤ pos u) ≡ (low +ℤ pos (u - 2 ^ k)) +ℤ pos (2 ^ k) = omega (arith, ints, whole) in
        let none : covers rs (low +ℤ pos u) ≡ false = covers-above (low +ℤ pos at.to) (low +ℤ pos u) rs at.ends (omega (arith, ints, at.below, large)) in
        let first : covers (cond (has_half p k 0) rs []) (low +ℤ pos u) ≡ false = first_part (has_half p k 0) (low +ℤ pos u) ∙ and_false (has_half p k 0) (covers rs (low +ℤ pos u)) none in
        let second : covers (cond (has_half p k 1) (map (moved (2 ^ k)) rs) []) (low +ℤ pos u) ≡ (has_half p k 1 && covers rs (low +ℤ pos (u - 2 ^ k))) =
        ap (covers (cond (has_half p k 1) (map (moved (2 ^ k)) rs) [])) up ∙ second_part (has_half p k 1) (low +ℤ pos (u - 2 ^ k)) in
        covers-append (cond (has_half p k 0) rs []) (cond (has_half p k 1) (map (moved (2 ^ k)) rs) []) (low +ℤ pos u)
        ∙ (ap (λ (t : Bool). covers (cond (has_half p k 0) rs []) (low +ℤ pos u) || t) second
        ∙ (upper_is (has_half p k 1) (covers (cond (has_half p k 0) rs []) (low +ℤ pos u)) (covers rs (low +ℤ pos (u - 2 ^ k))) (meets p k (u - 2 ^ k)) first (has.allowed (u - 2 ^ k) small) ∙ (sym (meets_upper p k (u - 2 ^ k) small) ∙ ap (meets p (suc k)) whole)))

-- where the next level's ranges stand
halves_placed : (low : ℤ) (k : ℕ) (apart lower upper : Bool) (rs : List (ℤ × ℤ)) → IsPlaced low (2 ^ k) apart rs → (lower ≡ true → upper ≡ true → apart ≡ true) → IsPlaced low (2 ^ suc k) true (halves lower upper (2 ^ k) rs)
halves_placed low k apart true true rs at both =
    let twice = pow-suc 2 k in
    let between : at.to + 2 ≤ at.from + 2 ^ k = at.gap (both refl refl) in
    let above : IsNormalFrom ((low +ℤ pos at.from) +ℤ pos (2 ^ k)) (map (moved (2 ^ k)) rs) = normal-moved (2 ^ k) (low +ℤ pos at.from) ((low +ℤ pos at.from) +ℤ pos (2 ^ k)) rs at.normal refl in
    record {
      from = at.from;
      to = at.to + 2 ^ k;
      order = omega (arith, at.order);
      below = omega (arith, at.below, twice);
      gap = λ _. omega (arith, between, twice);
      normal = normal-append (low +ℤ pos at.from) (low +ℤ pos at.to) rs (map (moved (2 ^ k)) rs) (omega (arith, ints, at.order)) at.normal at.ends (normal_lower ((low +ℤ pos at.to) +ℤ pos 2) ((low +ℤ pos at.from) +ℤ pos (2 ^ k)) (map (moved (2 ^ k)) rs) above (omega (arith, ints, between)));
      ends = ends-append (low +ℤ pos (at.to + 2 ^ k)) rs (map (moved (2 ^ k)) rs) (ends_higher (low +ℤ pos at.to) (low +ℤ pos (at.to + 2 ^ k)) rs at.ends (omega (arith, ints))) (ends-moved (2 ^ k) (low +ℤ pos at.to) (low +ℤ pos (at.to + 2 ^ k)) rs at.ends (omega (arith, ints)));
    }
halves_placed low k apart true false rs at both =
    let twice = pow-suc 2 k in
    let same = append-nil rs in
    record {
      from = at.from;
      to = at.to;
      order = at.order;
      below = omega (arith, at.below, twice);
      gap = λ _. omega (arith, at.below, twice, pow_pos k);
      normal = subst (IsNormalFrom (low +ℤ pos at.from)) (sym same) at.normal;
      ends = subst (EndsBy (low +ℤ pos at.to)) (sym same) at.ends;
    }
halves_placed low k apart false true rs at both =
    let twice = pow-suc 2 k in
    record {
      from = at.from + 2 ^ k;
      to = at.to + 2 ^ k;
      order = omega (arith, at.order);
      below = omega (arith, at.below, twice);
      gap = λ _. omega (arith, at.below, twice, pow_pos k);
      normal = normal-moved (2 ^ k) (low +ℤ pos at.from) (low +ℤ pos (at.from + 2 ^ k)) rs at.normal (omega (arith, ints));
      ends = ends-moved (2 ^ k) (low +ℤ pos at.to) (low +ℤ pos (at.to + 2 ^ k)) rs at.ends (omega (arith, ints));
    }
halves_placed low k apart false false rs at both =
    let twice = pow-suc 2 k in
    record {
      from = 0;
      to = 0;
      order = omega arith;
      below = omega (arith, twice, pow_pos k);
      gap = λ _. omega (arith, twice, pow_pos k);
      normal = tt;
      ends = tt;
    }

-- the place has the sign
abbrev is_sign : Pattern → ℕ → Bool
is_sign p k = p.signed && k + 1 == p.width

-- a place that isn't free has one half alone
one_allowed : (f w : ℕ) (s : Bool) → f ≡ 0 → (f == 1 || cond s 1 0 == w) ≡ true → (f == 1 || cond s 0 1 == w) ≡ true → ⊥
one_allowed zero w true e x y = grind (arith, common_steps, nat_tests)
one_allowed zero w false e x y = grind (arith, common_steps, nat_tests)
one_allowed (suc f) w s e x y = absurd (omega arith)

fixed_half : (p : Pattern) (k : ℕ) → bit_at p.free k ≡ 0 → has_half p k 0 ≡ true → has_half p k 1 ≡ true → ⊥
fixed_half p k fixed x y = one_allowed (bit_at p.free k) (bit_at p.bits k) (is_sign p k) fixed x y

free_half : (p : Pattern) (k b : ℕ) → bit_at p.free k ≡ 1 → has_half p k b ≡ true
free_half p k b free = any (bit_at p.free k) (own_bit p k b == bit_at p.bits k) free
  where
    any : (f : ℕ) (t : Bool) → f ≡ 1 → (f == 1 || t) ≡ true
    any f t e = grind (arith, common_steps, nat_tests)

-- ---- all levels

-- what is known of the ranges that the places below k give
pub record IsLevel (p : Pattern) (low : ℤ) (k : ℕ) (apart : Bool) (rs : List (ℤ × ℤ)) : Type 0 where
  pub placed : IsPlaced low (2 ^ k) apart rs
  pub has : HasAllowed p low k rs

first_level : (p : Pattern) (first : ℕ) (low : ℤ) → IsLowestFixed p first → IsLevel p low first false (ranges_above p first low zero)
unfolding meets
first_level p first low f = record {
  placed = record {
    from = 0;
    to = 2 ^ first - 1;
    order = omega arith;
    below = omega (arith, pow_pos first);
    gap = λ e. absurd (cc);
    normal = (omega (arith, ints), omega (arith, ints, pow_pos first), tt);
    ends = (omega (arith, ints, pow_pos first), tt);
  };
  has = record {
    allowed = λ u lt. inside low (2 ^ first) u lt ∙ sym (all_of_each (λ place. has_half p place (bit_at u place)) first (λ i below. free_half p i (bit_at u i) (f.free i below)));
  };
}
  where
    inside : (low : ℤ) (many u : ℕ) → u < many → (is_within (low +ℤ pos u) (low, (low +ℤ pos many) -ℤ pos 1) || false) ≡ true
    inside low many u lt = grind (arith, common_steps, ints)

next_level : (p : Pattern) (low : ℤ) (k : ℕ) (apart : Bool) (rs : List (ℤ × ℤ)) → (has_half p k 0 ≡ true → has_half p k 1 ≡ true → apart ≡ true) → IsLevel p low k apart rs → IsLevel p low (suc k) true (halves (has_half p k 0) (has_half p k 1) (2 ^ k) rs)
next_level p low k apart rs both level = record {
  placed = halves_placed low k apart (has_half p k 0) (has_half p k 1) rs level.placed both;
  has = halves_allowed p low k apart rs level.placed level.has;
}

-- the first fixed place is among so many
abbrev pub is_past : ℕ → Bool
is_past zero = false
is_past (suc n) = true

pub levels : (p : Pattern) (first : ℕ) (low : ℤ) (n : ℕ) → IsLowestFixed p first → first + n ≤ p.width → IsLevel p low (first + n) (is_past n) (ranges_above p first low n)
levels p first low zero f h = subst (λ (k : ℕ). IsLevel p low k false (ranges_above p first low zero)) (omega arith) (first_level p first low f)
levels p first low (suc n) f h = subst (λ (k : ℕ). IsLevel p low k true (ranges_above p first low (suc n))) (omega arith) (next_level p low (first + n) (is_past n) (ranges_above p first low n) (far n h) (levels p first low n f (omega arith)))
  where
    far : (n : ℕ) → first + suc n ≤ p.width → has_half p (first + n) 0 ≡ true → has_half p (first + n) 1 ≡ true → is_past n ≡ true
    far zero h x y = absurd (fixed_half p (first + 0) (subst (λ (k : ℕ). bit_at p.free k ≡ 0) (omega arith) (f.fixed (omega arith))) x y)
    far (suc n) h x y = refl

-- ---- how many ranges

half_length : (f w : ℕ) (s : Bool) (n : ℕ) → f < 2 → w < 2 → cond (f == 1 || cond s 1 0 == w) n 0 + cond (f == 1 || cond s 0 1 == w) n 0 ≡ n * (1 + f)
half_length zero zero true n x y = omega arith
half_length zero zero false n x y = omega arith
half_length zero (suc zero) true n x y = omega arith
half_length zero (suc zero) false n x y = omega arith
half_length (suc zero) w true n x y = omega arith
half_length (suc zero) w false n x y = omega arith
half_length (suc (suc f)) w s n x y = absurd (omega arith)
half_length zero (suc (suc w)) s n x y = absurd (omega arith)

length-halves : (lower upper : Bool) (step : ℕ) (rs : List (ℤ × ℤ)) → length (halves lower upper step rs) ≡ cond lower (length rs) 0 + cond upper (length rs) 0
length-halves true true step rs = length-append rs (map (moved step) rs) ∙ ap (λ (n : ℕ). length rs + n) (length-map rs (moved step))
length-halves true false step rs = length-append rs []
length-halves false true step rs = length-map rs (moved step) ∙ omega arith
length-halves false false step rs = omega arith

pub length-ranges_above : (p : Pattern) (first : ℕ) (low : ℤ) (n : ℕ) → length (ranges_above p first low n) ≡ count_above p first n
length-ranges_above p first low zero = refl
length-ranges_above p first low (suc n) =
    length-halves (has_half p (first + n) 0) (has_half p (first + n) 1) (2 ^ (first + n)) (ranges_above p first low n)
    ∙ (half_length (bit_at p.free (first + n)) (bit_at p.bits (first + n)) (is_sign p (first + n)) (length (ranges_above p first low n)) (bit_at-lt p.free (first + n)) (bit_at-lt p.bits (first + n))
    ∙ ap (λ (m : ℕ). m * (1 + bit_at p.free (first + n))) (length-ranges_above p first low n))

-- ---- the next ranges can be made

movable : (low high : ℤ) (step : ℕ) (rs : List (ℤ × ℤ)) → IsNormalFrom low rs → EndsBy high rs → (high +ℤ pos step) ≤ℤ greatest → All (IsMovable step) rs
movable low high step [] n e h = All-nil (IsMovable step)
movable low high step (r ∷ rs) n e h = All-cons (IsMovable step) r rs (n.1, omega (arith, ints, e.0)) (movable (r.1 +ℤ pos 2) high step rs n.2 e.1 h)

pub level_movable : (p : Pattern) (low : ℤ) (k : ℕ) (apart : Bool) (rs : List (ℤ × ℤ)) → IsLevel p low k apart rs → (low +ℤ pos (2 ^ suc k)) ≤ℤ (greatest +ℤ pos 1) → All (IsMovable (2 ^ k)) rs
level_movable p low k apart rs level h = movable (low +ℤ pos level.placed.from) (low +ℤ pos level.placed.to) (2 ^ k) rs level.placed.normal level.placed.ends (omega (arith, ints, h, level.placed.below, pow-suc 2 k))
