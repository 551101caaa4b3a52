-- Bits of words.
use Rattle.std.proofs.Common.{◌≡◌, ℕ, zero, suc, ◌+◌, ◌-◌, ◌*◌, ◌/◌, ◌%◌, ◌^◌, ◌<◌, ◌≤◌, ◌&&◌, ◌||◌, List, length, get_or, set, refl, sym, ap, ◌∙◌, arith, inl, inr, true, false, Bool, leb, ltb}
use Rattle.std.specs.Prelude.{bit_and, bit_or, replicate}
use Rattle.std.proofs.lemmas.Bool.{cases_lt, cases_eq, lt-ltb, le-ltb, le-leb, lt-leb}
use Rattle.std.proofs.lemmas.List.{get_or-set_same, get_or-set_other, get_or_past}
use Rattle.product_bits.specs.Marks.{has_bit, is_marked}
use Rattle.product_bits.proofs.BitLemmas.{has-or, has-and, has-shr, has-zero, has-above, has-shl, has-shl_below}

pub or-false : (a b : Bool) → b ≡ false → (a || b) ≡ a
or-false true b e = refl
or-false false b e = e

pub and-false : (a b : Bool) → b ≡ false → (a && b) ≡ false
and-false true b e = e
and-false false b e = refl

-- ---- one word is set

module _ (words : List ℕ) (i word : ℕ) (inside : i < length words) where
  pub in_word : (n : ℕ) → n / 64 ≡ i → is_marked (set words i word) n ≡ has_bit word (n % 64)
  in_word n e = ap (λ (w : ℕ). has_bit w (n % 64)) (ap (λ (k : ℕ). get_or (set words i word) k 0) e ∙ get_or-set_same words i word 0 inside)

  pub in_other : (n : ℕ) → (n / 64 ≡ i → ⊥) → is_marked (set words i word) n ≡ is_marked words n
  in_other n ne = ap (λ (w : ℕ). has_bit w (n % 64)) (get_or-set_other words i (n / 64) word 0 ne)

pub of_word : (words : List ℕ) (i n : ℕ) → n / 64 ≡ i → has_bit (get_or words i 0) (n % 64) ≡ is_marked words n
of_word words i n e = ap (λ (k : ℕ). has_bit (get_or words k 0) (n % 64)) (sym e)

-- ---- marks from one bit up to another

pub same_le : (a b c d : ℕ) → (a ≤ b → c ≤ d) → (c ≤ d → a ≤ b) → leb a b ≡ leb c d
same_le a b c d f g = elim (cases_lt b a) [
  | inl lt ↦ lt-leb a b lt ∙ sym (elim (cases_lt d c) [
    | inl other ↦ lt-leb c d other
    | inr le ↦ absurd (let h = g le in omega arith)
  ])
  | inr le ↦ le-leb a b le ∙ sym (le-leb c d (f le))
]

pub same_lt : (a b c d : ℕ) → (a < b → c < d) → (c < d → a < b) → ltb a b ≡ ltb c d
same_lt a b c d f g = elim (cases_lt a b) [
  | inl lt ↦ lt-ltb a b lt ∙ sym (lt-ltb c d (f lt))
  | inr le ↦ le-ltb a b le ∙ sym (elim (cases_lt c d) [
    | inl other ↦ absurd (let h = g other in omega arith)
    | inr past ↦ le-ltb c d past
  ])
]

pub both_same : {a b c d : Bool} → a ≡ c → b ≡ d → (a && b) ≡ (c && d)
both_same e f = λ i. e i && f i

pub either_same : {a b c d : Bool} → a ≡ c → b ≡ d → (a || b) ≡ (c || d)
either_same e f = λ i. e i || f i

pub mark_word : (words : List ℕ) (at end mask : ℕ) → at / 64 < length words → at < end → end ≤ (at / 64 + 1) * 64
    → ((bit : ℕ) → has_bit mask bit ≡ (leb (at % 64) bit && ltb bit (end - at / 64 * 64)))
    → (n : ℕ) → is_marked (set words (at / 64) (bit_or (get_or words (at / 64) 0) mask)) n ≡ (is_marked words n || (leb at n && ltb n end))
mark_word words at end mask inside order near bits n = elim (cases_eq (n / 64) (at / 64)) [
  | inl e ↦ in_word words (at / 64) (bit_or (get_or words (at / 64) 0) mask) inside n e ∙ (has-or (get_or words (at / 64) 0) mask (n % 64)
      ∙ either_same (of_word words (at / 64) n e) (bits (n % 64) ∙ both_same (same_le (at % 64) (n % 64) at n (λ h. omega arith) (λ h. omega arith)) (same_lt (n % 64) (end - at / 64 * 64) n end (λ h. omega arith) (λ h. omega arith))))
  | inr ne ↦ in_other words (at / 64) (bit_or (get_or words (at / 64) 0) mask) inside n ne ∙ sym (or-false (is_marked words n) (leb at n && ltb n end) (outside ne))
]
  where
    outside : (n / 64 ≡ at / 64 → ⊥) → (leb at n && ltb n end) ≡ false
    outside ne = elim (cases_lt n at) [
      | inl lt ↦ ap (λ (b : Bool). b && ltb n end) (lt-leb at n lt)
      | inr le ↦ and-false (leb at n) (ltb n end) (le-ltb n end (elim (cases_lt n end) [
        | inl lt ↦ absurd (ne (omega arith))
        | inr past ↦ past
      ]))
    ]

joined : (a p q r s : Bool) → (p || q) ≡ r → ((a || p) || q) ≡ (a || r)
joined true p q r s e = refl
joined false p q r s e = e

-- one stretch more
pub mark_more : (old new was : Bool) (from at end n : ℕ) → from ≤ at → at < end → old ≡ (was || (leb from n && ltb n at)) → new ≡ (old || (leb at n && ltb n end)) → new ≡ (was || (leb from n && ltb n end))
mark_more old new was from at end n low order before step = step ∙ (ap (λ (b : Bool). b || (leb at n && ltb n end)) before ∙ joined was (leb from n && ltb n at) (leb at n && ltb n end) (leb from n && ltb n end) true both)
  where
    both : ((leb from n && ltb n at) || (leb at n && ltb n end)) ≡ (leb from n && ltb n end)
    both = elim (cases_lt n at) [
      | inl lt ↦ rw (lt-ltb n at lt, lt-leb at n lt, lt-ltb n end (omega arith)) (or-false (leb from n && true) false refl)
      | inr le ↦ rw (le-ltb n at le, le-leb at n le, le-leb from n (omega arith)) refl
    ]

pub no_stretch : (was : Bool) (from to n : ℕ) → to ≤ from → was ≡ (was || (leb from n && ltb n to))
no_stretch was from to n le = sym (or-false was (leb from n && ltb n to) (elim (cases_lt n from) [
  | inl lt ↦ ap (λ (b : Bool). b && ltb n to) (lt-leb from n lt)
  | inr above ↦ and-false (leb from n) (ltb n to) (le-ltb n to (omega arith))
]))

-- ---- looking

pub shared_word : (words others : List ℕ) (at n : ℕ) → at % 64 ≡ 0 → bit_and (get_or words (at / 64) 0) (get_or others (at / 64) 0) ≡ 0 → at ≤ n → n < at + 64
    → (is_marked words n && is_marked others n) ≡ false
shared_word words others at n front none le lt =
    let e : n / 64 ≡ at / 64 = omega arith in
    ap (λ (k : ℕ). has_bit (get_or words k 0) (n % 64) && has_bit (get_or others k 0) (n % 64)) e
    ∙ (sym (has-and (get_or words (at / 64) 0) (get_or others (at / 64) 0) (n % 64)) ∙ (ap (λ (w : ℕ). has_bit w (n % 64)) none ∙ has-zero (n % 64)))

zero_words : (n i : ℕ) → ◌≡◌ {A = ℕ} (get_or (replicate n 0) i 0) 0
zero_words zero i = refl
zero_words (suc n) zero = refl
zero_words (suc n) (suc i) = zero_words n i

pub no_marks : (count n : ℕ) → is_marked (replicate count 0) n ≡ false
no_marks count n = ap (λ (w : ℕ). has_bit w (n % 64)) (zero_words count (n / 64)) ∙ has-zero (n % 64)

-- ---- a window on 64 bits

pub window_whole : (words : List ℕ) (from bit : ℕ) → from % 64 ≡ 0 → bit < 64 → has_bit (get_or words (from / 64) 0) bit ≡ is_marked words (from + bit)
window_whole words from bit front lt =
    let e : (from + bit) / 64 ≡ from / 64 = omega arith in
    let f : (from + bit) % 64 ≡ bit = omega arith in
    sym (λ i. has_bit (get_or words (e i) 0) (f i))

shifted_low : (low high skip bit : ℕ) → 0 < skip → bit < 64 - skip → has_bit (bit_or (low / 2 ^ skip) (high * 2 ^ (64 - skip) % 2 ^ 64)) bit ≡ has_bit low (skip + bit)
shifted_low low high skip bit some below =
    has-or (low / 2 ^ skip) (high * 2 ^ (64 - skip) % 2 ^ 64) bit
    ∙ (or-false (has_bit (low / 2 ^ skip) bit) (has_bit (high * 2 ^ (64 - skip) % 2 ^ 64) bit) (has-shl_below high (64 - skip) bit (omega arith) below) ∙ has-shr low skip bit)

shifted_high : (low high skip bit k : ℕ) → skip < 64 → bit < 64 → bit ≡ (64 - skip) + k → low < 2 ^ 64 → has_bit (bit_or (low / 2 ^ skip) (high * 2 ^ (64 - skip) % 2 ^ 64)) bit ≡ has_bit high k
shifted_high low high skip bit k small lt is fits =
    has-or (low / 2 ^ skip) (high * 2 ^ (64 - skip) % 2 ^ 64) bit
    ∙ either_same (has-shr low skip bit ∙ has-above low 64 (skip + bit) fits (omega arith)) (ap (has_bit (high * 2 ^ (64 - skip) % 2 ^ 64)) is ∙ has-shl high (64 - skip) k (omega arith))

pub window_split : (words : List ℕ) (from bit : ℕ) → (from % 64 ≡ 0 → ⊥) → bit < 64 → get_or words (from / 64) 0 < 2 ^ 64
    → has_bit (bit_or (get_or words (from / 64) 0 / 2 ^ (from % 64)) (get_or words (from / 64 + 1) 0 * 2 ^ (64 - from % 64) % 2 ^ 64)) bit ≡ is_marked words (from + bit)
window_split words from bit ne lt small = elim (cases_lt bit (64 - from % 64)) [
  | inl below ↦
      let e : (from + bit) / 64 ≡ from / 64 = omega arith in
      let f : (from + bit) % 64 ≡ from % 64 + bit = omega arith in
      shifted_low (get_or words (from / 64) 0) (get_or words (from / 64 + 1) 0) (from % 64) bit (omega arith) below ∙ sym (λ i. has_bit (get_or words (e i) 0) (f i))
  | inr above ↦
      let e : (from + bit) / 64 ≡ from / 64 + 1 = omega arith in
      let f : (from + bit) % 64 ≡ bit - (64 - from % 64) = omega arith in
      shifted_high (get_or words (from / 64) 0) (get_or words (from / 64 + 1) 0) (from % 64) bit (bit - (64 - from % 64)) (omega arith) lt (omega arith) small ∙ sym (λ i. has_bit (get_or words (e i) 0) (f i))
]

-- ---- word by word

past : (words : List ℕ) (n : ℕ) → length words ≤ n / 64 → is_marked words n ≡ false
past words n le = ap (λ (w : ℕ). has_bit w (n % 64)) (get_or_past words (n / 64) 0 le) ∙ has-zero (n % 64)

module _ (words : List ℕ) (i word : ℕ) (inside : i < length words) where
  -- one word more is as it is meant to be
  pub step_done : (f : ℕ → Bool) → ((n : ℕ) → n < 64 * i → is_marked words n ≡ f n) → ((n : ℕ) → n / 64 ≡ i → has_bit word (n % 64) ≡ f n) → (n : ℕ) → n < 64 * (i + 1) → is_marked (set words i word) n ≡ f n
  step_done f before now n lt = elim (cases_eq (n / 64) i) [
    | inl e ↦ in_word words i word inside n e ∙ now n e
    | inr ne ↦ in_other words i word inside n ne ∙ before n (elim (cases_lt n (64 * i)) [
      | inl less ↦ less
      | inr le ↦ absurd (ne (omega arith))
    ])
  ]

  -- and those behind it stay
  pub step_rest : (g : ℕ → Bool) → ((n : ℕ) → 64 * i ≤ n → is_marked words n ≡ g n) → (n : ℕ) → 64 * (i + 1) ≤ n → is_marked (set words i word) n ≡ g n
  step_rest g before n le = in_other words i word inside n (λ e. absurd (omega arith)) ∙ before n (omega arith)

-- a word that stands for the marks of another list
pub word_is : (words : List ℕ) (i n : ℕ) (g : ℕ → Bool) → n / 64 ≡ i → ((n : ℕ) → 64 * i ≤ n → is_marked words n ≡ g n) → has_bit (get_or words i 0) (n % 64) ≡ g n
word_is words i n g e rest = of_word words i n e ∙ rest n (omega arith)

-- all words are done
pub unite_done : (new old others : List ℕ) (i : ℕ) → length others ≡ length old → length old ≤ i → ((n : ℕ) → n < 64 * i → is_marked new n ≡ (is_marked old n || is_marked others n)) → ((n : ℕ) → 64 * i ≤ n → is_marked new n ≡ is_marked old n)
    → (n : ℕ) → is_marked new n ≡ (is_marked old n || is_marked others n)
unite_done new old others i same all done rest n = elim (cases_lt n (64 * i)) [
  | inl lt ↦ done n lt
  | inr le ↦ rest n le ∙ sym (or-false (is_marked old n) (is_marked others n) (past others n (omega arith)))
]

pub meet_done : (new old others : List ℕ) (i : ℕ) → length others ≡ length old → length old ≤ i → ((n : ℕ) → n < 64 * i → is_marked new n ≡ (is_marked old n && is_marked others n)) → ((n : ℕ) → 64 * i ≤ n → is_marked new n ≡ is_marked old n)
    → (n : ℕ) → is_marked new n ≡ (is_marked old n && is_marked others n)
meet_done new old others i same all done rest n = elim (cases_lt n (64 * i)) [
  | inl lt ↦ done n lt
  | inr le ↦ rest n le ∙ (past old n (omega arith) ∙ sym (and-false (is_marked old n) (is_marked others n) (past others n (omega arith))))
]
