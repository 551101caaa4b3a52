-- Numbers from their digits.
use Rattle.std.proofs.Common.{◌≡◌, ℕ, ◌+◌, ◌*◌, ◌-◌, ◌^◌, ◌<◌, ◌≤◌, List, [], ◌∷◌, Bool, true, false, ◌⊎◌, inl, inr, cond, None, not, find, count_by, length, drop, get_or, refl, ◌∙◌, ap, arith, drop-cons, suc}
use Rattle.std.proofs.lemmas.Bool.{cases_Bool, and_left, and_right, le-ltb, lt-leb}
use Rattle.std.proofs.Math.Dec.{ltb, leb}
use Rattle.std.proofs.Math.Pow.{pow_mono}
use Rattle.std.proofs.Math.Nat.{mul-le-mul_left}
use Rattle.cov_lexer.specs.declared.bytes.Base.{Base}
use Rattle.cov_lexer.specs.declared.bytes.Base.TheVariants as bases
use Rattle.cov_lexer.specs.Bytes.{is_unknown}
use Rattle.cov_lexer.specs.Literals.{radix, is_gap, number_from, digit_free, value_of, free_of, decimal_literal, of_size, meaning, fits_width, made, natural_width, above, leads_unknown, digit_bits}

pub radix_one : (b : Base) → 1 ≤ radix b
radix_one bases.Binary = omega arith
radix_one bases.Octal = omega arith
radix_one bases.Decimal = omega arith
radix_one bases.Hexadecimal = omega arith

-- a number grows with each digit
pub number_least : (r : ℕ) (value : ℕ → ℕ) (n : ℕ) (cs : List ℕ) → 1 ≤ r → n ≤ number_from r value n cs
number_least r value n [] h = omega arith
number_least r value n (c ∷ cs) h = elim (cases_Bool (is_gap c)) [
  | inl e ↦ rw e (number_least r value n cs h)
  | inr e ↦ rw e (let m = number_least r value (n * r + value c) cs h in let k : n * 1 ≤ n * r = mul-le-mul_left n h in omega arith)
]

pub number_digit : (r : ℕ) (value : ℕ → ℕ) (n i : ℕ) (cs : List ℕ) → i < length cs → is_gap (get_or cs i 0) ≡ false →
    number_from r value n (drop i cs) ≡ number_from r value (n * r + value (get_or cs i 0)) (drop (i + 1) cs)
number_digit r value n i cs l h =
    let e : suc i ≡ i + 1 = omega arith in
    ap (λ xs. number_from r value n xs) (drop-cons cs i 0 l) ∙
    (ap (λ t. number_from r value (cond t n (n * r + value (get_or cs i 0))) (drop (suc i) cs)) h ∙ ap (λ q. number_from r value (n * r + value (get_or cs i 0)) (drop q cs)) e)

pub number_gap : (r : ℕ) (value : ℕ → ℕ) (n i : ℕ) (cs : List ℕ) → i < length cs → is_gap (get_or cs i 0) ≡ true →
    number_from r value n (drop i cs) ≡ number_from r value n (drop (i + 1) cs)
number_gap r value n i cs l h =
    let e : suc i ≡ i + 1 = omega arith in
    ap (λ xs. number_from r value n xs) (drop-cons cs i 0 l) ∙
    (ap (λ t. number_from r value (cond t n (n * r + value (get_or cs i 0))) (drop (suc i) cs)) h ∙ ap (λ q. number_from r value n (drop q cs)) e)

-- what doesn't fit with a digit more doesn't fit with all
pub number_over : (r : ℕ) (value : ℕ → ℕ) (n i m : ℕ) (cs : List ℕ) → 1 ≤ r → i < length cs → is_gap (get_or cs i 0) ≡ false → m ≤ n * r + value (get_or cs i 0) →
    m ≤ number_from r value n (drop i cs)
number_over r value n i m cs o l h k =
    let g = number_least r value (n * r + value (get_or cs i 0)) (drop (i + 1) cs) o in
    let e = number_digit r value n i cs l h in
    omega (arith, e)

-- digits that have no bits

zero_digits : (r : ℕ) (value : ℕ → ℕ) (cs : List ℕ) → ((c : ℕ) → value c ≡ 0) → number_from r value 0 cs ≡ 0
zero_digits r value [] h = refl
zero_digits r value (c ∷ cs) h = elim (cases_Bool (is_gap c)) [
  | inl e ↦ rw e (zero_digits r value cs h)
  | inr e ↦ rw e (let z : 0 * r + value c ≡ 0 = omega (arith, h c) in rw z (zero_digits r value cs h))
]

no_free : (c : ℕ) → digit_free bases.Decimal c ≡ 0
no_free c = elim (cases_Bool (is_unknown c)) [ inl e ↦ rw e refl | inr e ↦ rw e refl ]

pub decimal_free : (cs : List ℕ) → free_of bases.Decimal cs ≡ 0
unfolding free_of
decimal_free cs = zero_digits 10 (digit_free bases.Decimal) cs no_free

-- the value of a number that 64 bits don't hold
pub decimal_over : (cs : List ℕ) → (2 ^ 64 ≤ value_of bases.Decimal cs) ⊎ (2 ^ 64 ≤ free_of bases.Decimal cs) → 2 ^ 64 ≤ value_of bases.Decimal cs
decimal_over cs h = elim h [ inl l ↦ l | inr l ↦ absurd (let e = decimal_free cs in omega arith) ]

pub decimal_none : (value : ℕ) → 2 ^ 63 ≤ value → decimal_literal value ≡ None
decimal_none value h = rw (le-ltb value (2 ^ 31) (omega arith), le-ltb value (2 ^ 63) h) refl

pub size_none : (signed : Bool) (base : Base) (size : ℕ) (cs : List ℕ) → 64 < size → of_size signed base size cs ≡ None
size_none signed base size cs h = let e = and_right (ltb 0 size) (leb size 64) (lt-leb size 64 h) in rw e refl

pub sized_none : (size : List ℕ) (signed : Bool) (base : Base) (cs : List ℕ) → 0 < length size → 64 < value_of bases.Decimal size → meaning size signed base cs ≡ None
sized_none [] signed base cs l h = absurd (omega arith)
sized_none (c ∷ more) signed base cs l h = size_none signed base (value_of bases.Decimal (c ∷ more)) cs h

-- digits that 64 bits don't hold fit no width

pub too_wide : (base : Base) (w : ℕ) (cs : List ℕ) → w ≤ 64 → (2 ^ 64 ≤ value_of base cs) ⊎ (2 ^ 64 ≤ free_of base cs) → fits_width base w cs ≡ false
too_wide base w cs l h =
    let m : 2 ^ w ≤ 2 ^ 64 = pow_mono l in
    elim h [
      | inl v ↦ and_left (ltb (value_of base cs) (2 ^ w)) _ (le-ltb (value_of base cs) (2 ^ w) (omega arith))
      | inr f ↦ and_right (ltb (value_of base cs) (2 ^ w)) (ltb (free_of base cs) (2 ^ w)) (le-ltb (free_of base cs) (2 ^ w) (omega arith))
    ]

pub made_none : (sized signed : Bool) (base : Base) (w : ℕ) (cs : List ℕ) → fits_width base w cs ≡ false → made sized signed base w cs ≡ None
made_none sized signed base w cs h = rw h refl

pub natural_at_most : (base : Base) (cs : List ℕ) → natural_width base cs ≤ 64
natural_at_most base cs = elim (cases_Bool (fits_width base 32 cs)) [ inl e ↦ rw e (omega arith) | inr e ↦ rw e (omega arith) ]

pub unsized_none : (signed : Bool) (base : Base) (cs : List ℕ) → (2 ^ 64 ≤ value_of base cs) ⊎ (2 ^ 64 ≤ free_of base cs) → made false signed base (natural_width base cs) cs ≡ None
unsized_none signed base cs h = made_none false signed base (natural_width base cs) cs (too_wide base (natural_width base cs) cs (natural_at_most base cs) h)

pub limits : (k w : ℕ) → k < w → 2 ^ k ≤ 2 ^ w
limits k w l = pow_mono (omega arith)

pub nothing_above : (k w : ℕ) → w ≤ k → 2 ^ w - 2 ^ k ≡ 0
nothing_above k w l = let m : 2 ^ w ≤ 2 ^ k = pow_mono l in omega arith

pub above_none : (base : Base) (w : ℕ) (cs : List ℕ) → w ≤ digit_bits base * count_by (λ c. not (is_gap c)) cs → above base w cs ≡ 0
above_none base w cs h = elim (cases_Bool (leads_unknown (find (λ c. not (is_gap c)) cs))) [
  | inl e ↦ rw e (nothing_above (digit_bits base * count_by (λ c. not (is_gap c)) cs) w h)
  | inr e ↦ rw e refl
]
