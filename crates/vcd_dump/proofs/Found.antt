-- Words, and numbers, as loops find them.
use Rattle.std.proofs.Common.{◌≡◌, ℕ, suc, ◌+◌, ◌*◌, ◌-◌, ◌≤◌, ◌<◌, ◌^◌, List, [], ◌∷◌, length, drop, Bool, true, false, Option, Some, None, refl, sym, ap, ◌∙◌, arith}
use Rattle.std.specs.List.{position, position_or_len}
use Rattle.std.specs.Prelude.{nat_lt, not, if◌then◌else◌}
use Rattle.std.proofs.lemmas.List.Sums.{prefix_len-le-length, position_or_len_is}
use Rattle.std.proofs.lemmas.List.Quantifiers.{position-Some}
use Rattle.std.proofs.lemmas.Bool.Decides.{nat_tests}
use Rattle.std.proofs.Math.Nat.{mul-le-mul_right}
use Rattle.vcd_dump.specs.Words.{is_blank, first_word, Word, words_from, words}
use Rattle.vcd_dump.specs.Numbers.{is_digit_in, number_from, in_64_bits, with_digit}

pub ends_within : (p : ℕ → Bool) (bytes : List ℕ) → position_or_len p bytes ≤ length bytes
ends_within p bytes = prefix_len-le-length (λ x. not (p x)) bytes

pub found : (p : ℕ → Bool) (bytes : List ℕ) (i : ℕ) → position p bytes ≡ Some i → i ≡ position_or_len p bytes
found p bytes i e =
    let h = position-Some p bytes i 0 e in
    sym (position_or_len_is p bytes i 0 (omega (arith, h)) h.2 (λ lt. h.1))

suc_is : (n : ℕ) → 1 + n ≡ suc n
suc_is n = omega arith

inside_step : (b : Bool) (byte : ℕ) (bytes : List ℕ) → is_blank byte ≡ b → words_from true bytes ≡ words_from false (drop (position_or_len is_blank bytes) bytes)
    → words_from true (byte ∷ bytes) ≡ words_from false (drop (position_or_len is_blank (byte ∷ bytes)) (byte ∷ bytes))
unfolding words_from
inside_step true byte bytes e h = rw (e, e) refl
inside_step false byte bytes e h = rw (e, suc_is) h

inside_is : (bytes : List ℕ) → words_from true bytes ≡ words_from false (drop (position_or_len is_blank bytes) bytes)
unfolding words_from
inside_is [] = refl
inside_is (byte ∷ bytes) = inside_step (is_blank byte) byte bytes refl (inside_is bytes)

pub begins_word : (byte : ℕ) (bytes : List ℕ) → is_blank byte ≡ false → words (byte ∷ bytes) ≡ first_word (byte ∷ bytes) ∷ words (drop (position_or_len is_blank (byte ∷ bytes)) (byte ∷ bytes))
unfolding words words_from
begins_word byte bytes e =
    let h : words_from (true) bytes ≡ words_from false (drop (position_or_len is_blank (byte ∷ bytes)) (byte ∷ bytes)) = rw (e, suc_is) (inside_is bytes) in
    let g : words_from false (byte ∷ bytes) ≡ first_word (byte ∷ bytes) ∷ words_from true bytes = rw e refl in
    g ∙ ap (λ (ws : List Word). first_word (byte ∷ bytes) ∷ ws) h

pub skips : (byte : ℕ) (bytes : List ℕ) → is_blank byte ≡ true → words (byte ∷ bytes) ≡ words bytes
unfolding words words_from
skips byte bytes e = rw e refl

pub no_words : (bytes : List ℕ) → length bytes ≡ 0 → words bytes ≡ []
unfolding words words_from
no_words [] e = refl
no_words (byte ∷ bytes) e = absurd (omega arith)

-- ---- numbers

some : ℕ → Option ℕ
some n = Some n

some_is : (m n : ℕ) → Some m ≡ Some n → m ≡ n
some_is m n e = cc

is_long : (number : ℕ) → 2 ^ 64 ≤ number → nat_lt number (2 ^ 64) ≡ false
is_long number h = grind (arith, nat_tests)

grown : (base number digit : ℕ) → 1 ≤ base → 2 ^ 64 ≤ number → 2 ^ 64 ≤ base * number + digit
grown base number digit b h = let m = mul-le-mul_right number b in omega (arith, m)

stays_long : (base number : ℕ) (bytes : List ℕ) → 1 ≤ base → 2 ^ 64 ≤ number → in_64_bits (number_from base number bytes) ≡ None
stays_long base number [] b h = rw (is_long number h) refl
stays_long base number (byte ∷ bytes) b h = elim (is_digit_in base byte) as (λ (d : Bool). in_64_bits (if◌then◌else◌ d (number_from base (base * number + (byte - 48)) bytes) None) ≡ None) [
  | true ↦ stays_long base (base * number + (byte - 48)) bytes b (grown base number (byte - 48) b h)
  | false ↦ refl
]

more_by : (d t : Bool) (base number byte more : ℕ) (bytes : List ℕ) → is_digit_in base byte ≡ d → nat_lt (base * number + (byte - 48)) (2 ^ 64) ≡ t
    → with_digit base number byte ≡ Some more → in_64_bits (number_from base number (byte ∷ bytes)) ≡ in_64_bits (number_from base more bytes)
more_by true true base number byte more bytes is lt e =
    let f = rw (is, lt) at e in
    rw is (ap (λ (m : ℕ). in_64_bits (number_from base m bytes)) (some_is _ more f))
more_by true false base number byte more bytes is lt e = let f = rw (is, lt) at e in absurd cc
more_by false t base number byte more bytes is lt e = let f = rw is at e in absurd cc

-- one more digit of a number of at most 64 bits
pub one_more : (base number byte more : ℕ) (bytes : List ℕ) → with_digit base number byte ≡ Some more → in_64_bits (number_from base number (byte ∷ bytes)) ≡ in_64_bits (number_from base more bytes)
one_more base number byte more bytes e = more_by (is_digit_in base byte) (nat_lt (base * number + (byte - 48)) (2 ^ 64)) base number byte more bytes refl refl e

stops_by : (d t : Bool) (base number byte : ℕ) (bytes : List ℕ) → 1 ≤ base → is_digit_in base byte ≡ d → nat_lt (base * number + (byte - 48)) (2 ^ 64) ≡ t
    → with_digit base number byte ≡ None → in_64_bits (number_from base number (byte ∷ bytes)) ≡ None
stops_by true true base number byte bytes b is lt e = let f = rw (is, lt) at e in absurd cc
stops_by true false base number byte bytes b is lt e =
    let h : 2 ^ 64 ≤ base * number + (byte - 48) = grind (arith, nat_tests) in
    rw is (stays_long base (base * number + (byte - 48)) bytes b h)
stops_by false t base number byte bytes b is lt e = rw is refl

pub stops : (base number byte : ℕ) (bytes : List ℕ) → 1 ≤ base → with_digit base number byte ≡ None → in_64_bits (number_from base number (byte ∷ bytes)) ≡ None
stops base number byte bytes b e = stops_by (is_digit_in base byte) (nat_lt (base * number + (byte - 48)) (2 ^ 64)) base number byte bytes b refl refl e

pub all_read : (base number : ℕ) (bytes : List ℕ) → length bytes ≡ 0 → number < 2 ^ 64 → in_64_bits (number_from base number bytes) ≡ Some number
all_read base number [] e h = let lt : nat_lt number (2 ^ 64) ≡ true = grind (arith, nat_tests) in rw lt refl
all_read base number (byte ∷ bytes) e h = absurd (omega arith)
