-- Digits that are put before others don't change the number that is written.
use Rattle.std.proofs.Common.{◌≡◌, ℕ, zero, suc, ◌-◌, List, [], ◌∷◌, ◌++◌, length, drop, Bool, true, false, None, refl, sym, subst, ap, ◌∙◌, arith}
use Rattle.std.specs.Prelude.{replicate, slice_index, nat_lt, ◌==◌}
use Rattle.std.proofs.lemmas.Bool.Decides.{nat_tests}
use Rattle.vcd_dump.specs.Numbers.{is_digit_in, in_64_bits, number_from, number_in}
use Rattle.vcd_dump.specs.Values.{filler, at_width}

zeros : (n : ℕ) (bytes : List ℕ) → number_from 2 0 (replicate n 48 ++ bytes) ≡ number_from 2 0 bytes
zeros zero bytes = refl
zeros (suc n) bytes = zeros n bytes

some_digits : (byte : ℕ) (bytes : List ℕ) → number_in 2 (byte ∷ bytes) ≡ in_64_bits (number_from 2 0 (byte ∷ bytes))
unfolding number_in
some_digits byte bytes = let e : (length (byte ∷ bytes) == 0) ≡ false = grind (arith, nat_tests) in rw e refl

-- the first digit decides what stands before it
filled_by : (one digit : Bool) (n byte : ℕ) (bytes : List ℕ) → (byte == 49) ≡ one → is_digit_in 2 byte ≡ digit
    → number_from 2 0 (byte ∷ bytes) ≡ number_from 2 0 (replicate (suc n) (filler byte) ++ byte ∷ bytes)
filled_by true digit n byte bytes one is = rw one (sym (zeros n (byte ∷ bytes)))
filled_by false true n byte bytes one is =
    let zero_is : byte ≡ 48 = grind (arith, nat_tests) in
    subst (λ (b : ℕ). number_from 2 0 (b ∷ bytes) ≡ number_from 2 0 (replicate (suc n) (filler b) ++ b ∷ bytes)) (sym zero_is) (sym (zeros n (48 ∷ bytes)))
filled_by false false n byte bytes one is = rw (one, is) refl

none : number_in 2 [] ≡ None
unfolding number_in
none = refl

filled : (n : ℕ) (bytes : List ℕ) → number_in 2 bytes ≡ number_in 2 (replicate n (filler (slice_index bytes 0)) ++ bytes)
filled zero bytes = refl
filled (suc n) [] = none ∙ sym (some_digits 0 (replicate n 0 ++ []))
filled (suc n) (byte ∷ bytes) = some_digits byte bytes ∙ (ap in_64_bits (filled_by (byte == 49) (is_digit_in 2 byte) n byte bytes refl refl) ∙ sym (some_digits (filler byte) (replicate n (filler byte) ++ byte ∷ bytes)))

cut_by : (over : Bool) (width : ℕ) (digits : List ℕ) → nat_lt width (length digits) ≡ over → number_in 2 (drop (length digits - width) digits) ≡ number_in 2 (at_width width digits)
unfolding at_width
cut_by true width digits is =
    let e : width - length digits ≡ 0 = grind (arith, nat_tests) in
    rw e refl
cut_by false width digits is =
    let e : length digits - width ≡ 0 = grind (arith, nat_tests) in
    rw e (filled (width - length digits) digits)

pub cut_is : (width : ℕ) (digits : List ℕ) → number_in 2 (drop (length digits - width) digits) ≡ number_in 2 (at_width width digits)
cut_is width digits = cut_by (nat_lt width (length digits)) width digits refl
