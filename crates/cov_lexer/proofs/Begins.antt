-- Which pieces begin with a byte.
use Rattle.std.proofs.Common.{◌≡◌, ◌≢◌, ℕ, ◌+◌, ◌<◌, ◌≤◌, List, [], ◌∷◌, Bool, true, false, ◌||◌, ◌⊎◌, inl, inr, not, cond, eqb, length, get_or, refl, sym, subst, arith}
use Rattle.std.proofs.lemmas.Bool.{eqb-true, ne_eqb, or_cases}
use Rattle.std.proofs.lemmas.Bool.Decides.{nat_tests}
use Rattle.std.proofs.lemmas.Grind.{common_steps}
use Rattle.cov_lexer.specs.declared.token.TokenKind.{TokenKind}
use Rattle.cov_lexer.specs.declared.token.TokenKind.TheVariants.{Ident, Keyword, System, Decimal, Based, Text, Operator, NotSupported}
use Rattle.cov_lexer.specs.Bytes.{is_letter, is_digit, is_blank, is_quote, is_dollar, is_slash, is_apostrophe}
use Rattle.cov_lexer.specs.Spellings.{Spelling, operators, begins_with}
use Rattle.cov_lexer.specs.Operators.{stands, IsOneAt}
use Rattle.cov_lexer.specs.Forms.{Piece, Separator, Item, Spells}
use Rattle.cov_lexer.specs.Lexes.{opens_comment}
use Rattle.cov_lexer.proofs.Tables.{first_byte, not_standing, cond_true}

-- what an operator may begin with
abbrev pub is_mark : ℕ → Bool
is_mark b = not (is_letter b || (is_digit b || (is_quote b || is_blank b)))

abbrev pub begins : Piece → ℕ → Bool
begins Separator b = is_blank b || is_slash b
begins (Item Ident) b = is_letter b
begins (Item Keyword) b = is_letter b
begins (Item System) b = is_dollar b
begins (Item Decimal) b = is_digit b
begins (Item Based) b = is_apostrophe b || is_digit b
begins (Item Text) b = is_quote b
begins (Item Operator) b = is_mark b
begins (Item NotSupported) b = is_mark b

or_left : (x y : Bool) → x ≡ true → (x || y) ≡ true
or_left true y h = refl
or_left false y h = absurd (cc)

or_right : (x y : Bool) → y ≡ true → (x || y) ≡ true
or_right true y h = refl
or_right false y h = h

abbrev first_passes : (ℕ → Bool) → List ℕ → Bool
first_passes p [] = false
first_passes p (x ∷ xs) = p x

abbrev all_begin : (ℕ → Bool) → List Spelling → Bool
all_begin p [] = true
all_begin p (s ∷ ss) = cond (first_passes p s.text) (all_begin p ss) false

stands_passes : (p : ℕ → Bool) (text : List ℕ) (i : ℕ) (bytes : List ℕ) → i < length text → first_passes p bytes ≡ true → stands text i bytes ≡ true → p (get_or text i 0) ≡ true
stands_passes p text i [] l h s = absurd (cc)
stands_passes p text i (x ∷ xs) l h s = subst (λ q. p q ≡ true) (sym (first_byte text i x xs l s)) h

one_passes : (p : ℕ → Bool) (text : List ℕ) (i : ℕ) (k : TokenKind) (ss : List Spelling) (n : ℕ) → i < length text → all_begin p ss ≡ true → IsOneAt text i k ss n → p (get_or text i 0) ≡ true
unfolding IsOneAt
one_passes p text i k [] n l h o = absurd o
one_passes p text i k (s ∷ ss) n l h o =
    let a = cond_true (first_passes p s.text) (all_begin p ss) h in
    elim o [
      | inl q ↦ stands_passes p text i s.text l a.0 q.1
      | inr q ↦ one_passes p text i k ss n l a.1 q
    ]

operators_mark : all_begin is_mark operators ≡ true
unfolding operators
operators_mark = refl

pub begins_byte : (text : List ℕ) (i : ℕ) (p : Piece) (n : ℕ) → i < length text → Spells text i p n → begins p (get_or text i 0) ≡ true
begins_byte text i Separator n l s = elim s [
  | inl f ↦ or_left _ _ f.0.1
  | inr g ↦ elim g [
    | inl f ↦ or_right (is_blank (get_or text i 0)) _ f.0.1
    | inr c ↦ or_right (is_blank (get_or text i 0)) _ (subst (λ q. is_slash q ≡ true) (sym (first_byte text i 47 (42 ∷ []) l c.opens)) refl)
  ]
]
begins_byte text i (Item Ident) n l s = s.0.0.1
begins_byte text i (Item Keyword) n l s = s.0.0.1
begins_byte text i (Item System) n l s = s.0.1
begins_byte text i (Item Decimal) n l s = s.0.1
begins_byte text i (Item Based) n l s = elim s.1 [
  | inl f ↦ or_left _ _ f.0.1
  | inr f ↦ or_right (is_apostrophe (get_or text i 0)) _ f.0.1
]
begins_byte text i (Item Text) n l s = s.0.1
begins_byte text i (Item Operator) n l s = one_passes is_mark text i Operator operators n l operators_mark s
begins_byte text i (Item NotSupported) n l s = one_passes is_mark text i NotSupported operators n l operators_mark s

-- bounds

pub letter_above : (b : ℕ) → is_letter b ≡ true → 65 ≤ b
letter_above b h = grind (arith, nat_tests)

pub digit_above : (b : ℕ) → is_digit b ≡ true → 48 ≤ b
digit_above b h = grind (arith, nat_tests)

pub digit_below : (b : ℕ) → is_digit b ≡ true → b ≤ 57
digit_below b h = grind (arith, nat_tests)

pub blank_below : (b : ℕ) → is_blank b ≡ true → b ≤ 32
blank_below b h = grind (arith, nat_tests)

separator_below : (b : ℕ) → (is_blank b || is_slash b) ≡ true → b ≤ 47
separator_below b h = elim (or_cases (is_blank b) (is_slash b) h) [
  | inl e ↦ (let l = blank_below b e in omega arith)
  | inr e ↦ (let l = eqb-true b 47 e in omega arith)
]

none_of_four : (p q r s : Bool) → not (p || (q || (r || s))) ≡ true → (p ≡ false) × (q ≡ false) × (r ≡ false) × (s ≡ false)
none_of_four true q r s h = absurd (cc)
none_of_four false true r s h = absurd (cc)
none_of_four false false true s h = absurd (cc)
none_of_four false false false true h = absurd (cc)
none_of_four false false false false h = (refl, refl, refl, refl)

mark_parts : (b : ℕ) → is_mark b ≡ true → (is_letter b ≡ false) × (is_digit b ≡ false) × (is_quote b ≡ false) × (is_blank b ≡ false)
mark_parts b h = none_of_four (is_letter b) (is_digit b) (is_quote b) (is_blank b) h

based_below : (b : ℕ) → (is_apostrophe b || is_digit b) ≡ true → b ≤ 57
based_below b h = elim (or_cases (is_apostrophe b) (is_digit b) h) [
  | inl e ↦ (let l = eqb-true b 39 e in omega arith)
  | inr e ↦ digit_below b e
]

based_above : (b : ℕ) → (is_apostrophe b || is_digit b) ≡ true → 39 ≤ b
based_above b h = elim (or_cases (is_apostrophe b) (is_digit b) h) [
  | inl e ↦ (let l = eqb-true b 39 e in omega arith)
  | inr e ↦ (let l = digit_above b e in omega arith)
]

-- the pieces that begin with a byte

pub letter_begins : (p : Piece) (b : ℕ) → is_letter b ≡ true → begins p b ≡ true → (p ≡ Item Ident) ⊎ (p ≡ Item Keyword)
letter_begins Separator b h k = absurd (let l = letter_above b h in let u = separator_below b k in omega arith)
letter_begins (Item Ident) b h k = inl refl
letter_begins (Item Keyword) b h k = inr refl
letter_begins (Item System) b h k = absurd (let l = letter_above b h in let u = eqb-true b 36 k in omega arith)
letter_begins (Item Decimal) b h k = absurd (let l = letter_above b h in let u = digit_below b k in omega arith)
letter_begins (Item Based) b h k = absurd (let l = letter_above b h in let u = based_below b k in omega arith)
letter_begins (Item Text) b h k = absurd (let l = letter_above b h in let u = eqb-true b 34 k in omega arith)
letter_begins (Item Operator) b h k = absurd (let m = mark_parts b k in let e = m.0 in cc)
letter_begins (Item NotSupported) b h k = absurd (let m = mark_parts b k in let e = m.0 in cc)

pub digit_begins : (p : Piece) (b : ℕ) → is_digit b ≡ true → begins p b ≡ true → (p ≡ Item Decimal) ⊎ (p ≡ Item Based)
digit_begins Separator b h k = absurd (let l = digit_above b h in let u = separator_below b k in omega arith)
digit_begins (Item Ident) b h k = absurd (let l = digit_below b h in let u = letter_above b k in omega arith)
digit_begins (Item Keyword) b h k = absurd (let l = digit_below b h in let u = letter_above b k in omega arith)
digit_begins (Item System) b h k = absurd (let l = digit_above b h in let u = eqb-true b 36 k in omega arith)
digit_begins (Item Decimal) b h k = inl refl
digit_begins (Item Based) b h k = inr refl
digit_begins (Item Text) b h k = absurd (let l = digit_above b h in let u = eqb-true b 34 k in omega arith)
digit_begins (Item Operator) b h k = absurd (let m = mark_parts b k in let e = m.1 in cc)
digit_begins (Item NotSupported) b h k = absurd (let m = mark_parts b k in let e = m.1 in cc)

pub blank_begins : (p : Piece) (b : ℕ) → is_blank b ≡ true → begins p b ≡ true → p ≡ Separator
blank_begins Separator b h k = refl
blank_begins (Item Ident) b h k = absurd (let l = blank_below b h in let u = letter_above b k in omega arith)
blank_begins (Item Keyword) b h k = absurd (let l = blank_below b h in let u = letter_above b k in omega arith)
blank_begins (Item System) b h k = absurd (let l = blank_below b h in let u = eqb-true b 36 k in omega arith)
blank_begins (Item Decimal) b h k = absurd (let l = blank_below b h in let u = digit_above b k in omega arith)
blank_begins (Item Based) b h k = absurd (let l = blank_below b h in let u = based_above b k in omega arith)
blank_begins (Item Text) b h k = absurd (let l = blank_below b h in let u = eqb-true b 34 k in omega arith)
blank_begins (Item Operator) b h k = absurd (let m = mark_parts b k in let e = m.3 in cc)
blank_begins (Item NotSupported) b h k = absurd (let m = mark_parts b k in let e = m.3 in cc)

at_byte : (p : Piece) (b c : ℕ) → b ≡ c → begins p b ≡ true → begins p c ≡ true
at_byte p b c e h = subst (λ q. begins p q ≡ true) e h

pub quote_begins : (p : Piece) (b : ℕ) → b ≡ 34 → begins p b ≡ true → p ≡ Item Text
quote_begins Separator b e k = absurd (let g = at_byte Separator b 34 e k in cc)
quote_begins (Item Ident) b e k = absurd (let g = at_byte (Item Ident) b 34 e k in cc)
quote_begins (Item Keyword) b e k = absurd (let g = at_byte (Item Keyword) b 34 e k in cc)
quote_begins (Item System) b e k = absurd (let g = at_byte (Item System) b 34 e k in cc)
quote_begins (Item Decimal) b e k = absurd (let g = at_byte (Item Decimal) b 34 e k in cc)
quote_begins (Item Based) b e k = absurd (let g = at_byte (Item Based) b 34 e k in cc)
quote_begins (Item Text) b e k = refl
quote_begins (Item Operator) b e k = absurd (let g = at_byte (Item Operator) b 34 e k in cc)
quote_begins (Item NotSupported) b e k = absurd (let g = at_byte (Item NotSupported) b 34 e k in cc)

pub dollar_begins : (p : Piece) (b : ℕ) → b ≡ 36 → begins p b ≡ true → (p ≡ Item System) ⊎ ((p ≡ Item Operator) ⊎ (p ≡ Item NotSupported))
dollar_begins Separator b e k = absurd (let g = at_byte Separator b 36 e k in cc)
dollar_begins (Item Ident) b e k = absurd (let g = at_byte (Item Ident) b 36 e k in cc)
dollar_begins (Item Keyword) b e k = absurd (let g = at_byte (Item Keyword) b 36 e k in cc)
dollar_begins (Item System) b e k = inl refl
dollar_begins (Item Decimal) b e k = absurd (let g = at_byte (Item Decimal) b 36 e k in cc)
dollar_begins (Item Based) b e k = absurd (let g = at_byte (Item Based) b 36 e k in cc)
dollar_begins (Item Text) b e k = absurd (let g = at_byte (Item Text) b 36 e k in cc)
dollar_begins (Item Operator) b e k = inr (inl refl)
dollar_begins (Item NotSupported) b e k = inr (inr refl)

pub apostrophe_begins : (p : Piece) (b : ℕ) → b ≡ 39 → begins p b ≡ true → (p ≡ Item Based) ⊎ ((p ≡ Item Operator) ⊎ (p ≡ Item NotSupported))
apostrophe_begins Separator b e k = absurd (let g = at_byte Separator b 39 e k in cc)
apostrophe_begins (Item Ident) b e k = absurd (let g = at_byte (Item Ident) b 39 e k in cc)
apostrophe_begins (Item Keyword) b e k = absurd (let g = at_byte (Item Keyword) b 39 e k in cc)
apostrophe_begins (Item System) b e k = absurd (let g = at_byte (Item System) b 39 e k in cc)
apostrophe_begins (Item Decimal) b e k = absurd (let g = at_byte (Item Decimal) b 39 e k in cc)
apostrophe_begins (Item Based) b e k = inl refl
apostrophe_begins (Item Text) b e k = absurd (let g = at_byte (Item Text) b 39 e k in cc)
apostrophe_begins (Item Operator) b e k = inr (inl refl)
apostrophe_begins (Item NotSupported) b e k = inr (inr refl)

pub slash_begins : (p : Piece) (b : ℕ) → b ≡ 47 → begins p b ≡ true → (p ≡ Separator) ⊎ ((p ≡ Item Operator) ⊎ (p ≡ Item NotSupported))
slash_begins Separator b e k = inl refl
slash_begins (Item Ident) b e k = absurd (let g = at_byte (Item Ident) b 47 e k in cc)
slash_begins (Item Keyword) b e k = absurd (let g = at_byte (Item Keyword) b 47 e k in cc)
slash_begins (Item System) b e k = absurd (let g = at_byte (Item System) b 47 e k in cc)
slash_begins (Item Decimal) b e k = absurd (let g = at_byte (Item Decimal) b 47 e k in cc)
slash_begins (Item Based) b e k = absurd (let g = at_byte (Item Based) b 47 e k in cc)
slash_begins (Item Text) b e k = absurd (let g = at_byte (Item Text) b 47 e k in cc)
slash_begins (Item Operator) b e k = inr (inl refl)
slash_begins (Item NotSupported) b e k = inr (inr refl)

either_false : (x y : Bool) → x ≡ false → y ≡ false → (x || y) ≡ true → ⊥
either_false x y h k e = elim (or_cases x y e) [ inl a ↦ absurd (cc) | inr a ↦ absurd (cc) ]

pub other_begins : (p : Piece) (b : ℕ) → is_blank b ≡ false → is_letter b ≡ false → is_digit b ≡ false → b ≢ 34 → b ≢ 36 → b ≢ 39 → b ≢ 47 → begins p b ≡ true →
    (p ≡ Item Operator) ⊎ (p ≡ Item NotSupported)
other_begins Separator b bl le di n34 n36 n39 n47 k = absurd (either_false _ _ bl (ne_eqb b 47 n47) k)
other_begins (Item Ident) b bl le di n34 n36 n39 n47 k = absurd (cc)
other_begins (Item Keyword) b bl le di n34 n36 n39 n47 k = absurd (cc)
other_begins (Item System) b bl le di n34 n36 n39 n47 k = absurd (n36 (eqb-true b 36 k))
other_begins (Item Decimal) b bl le di n34 n36 n39 n47 k = absurd (cc)
other_begins (Item Based) b bl le di n34 n36 n39 n47 k = absurd (either_false _ _ (ne_eqb b 39 n39) di k)
other_begins (Item Text) b bl le di n34 n36 n39 n47 k = absurd (n34 (eqb-true b 34 k))
other_begins (Item Operator) b bl le di n34 n36 n39 n47 k = inl refl
other_begins (Item NotSupported) b bl le di n34 n36 n39 n47 k = inr refl

-- no comment begins with another byte than a slash
pub no_comment : (text : List ℕ) (i : ℕ) → i < length text → get_or text i 0 ≢ 47 → opens_comment text i ≡ false
no_comment text i l n = not_standing text i 47 (42 ∷ []) l (ne_eqb 47 (get_or text i 0) (λ e. n (sym e)))

-- operators that have one byte where they begin with this one

abbrev all_short : ℕ → List Spelling → Bool
all_short b [] = true
all_short b (s ∷ ss) = cond (not (begins_with b s.text) || eqb (length s.text) 1) (all_short b ss) false

stands_begins : (text : List ℕ) (i : ℕ) (bytes : List ℕ) → i < length text → stands text i bytes ≡ true → begins_with (get_or text i 0) bytes ≡ true
stands_begins text i [] l s = refl
stands_begins text i (x ∷ xs) l s = let e = first_byte text i x xs l s in subst (λ q. eqb x q ≡ true) (sym e) (grind (arith, common_steps))

short_one : (text : List ℕ) (i : ℕ) (k : TokenKind) (ss : List Spelling) (n : ℕ) → i < length text → all_short (get_or text i 0) ss ≡ true → IsOneAt text i k ss n → n ≡ i + 1
unfolding IsOneAt
short_one text i k [] n l h o = absurd o
short_one text i k (s ∷ ss) n l h o =
    let a = cond_true (not (begins_with (get_or text i 0) s.text) || eqb (length s.text) 1) (all_short (get_or text i 0) ss) h in
    elim o [
      | inl q ↦ (let g = stands_begins text i s.text l q.1 in let m = rw g at a.0 in let e = eqb-true (length s.text) 1 m in omega (arith, q.2))
      | inr q ↦ short_one text i k ss n l a.1 q
    ]

dollars_short : all_short 36 operators ≡ true
unfolding operators
dollars_short = refl

apostrophes_short : all_short 39 operators ≡ true
unfolding operators
apostrophes_short = refl

slashes_short : all_short 47 operators ≡ true
unfolding operators
slashes_short = refl

pub short_at : (text : List ℕ) (i : ℕ) (k : TokenKind) (n : ℕ) → i < length text → (get_or text i 0 ≡ 36) ⊎ ((get_or text i 0 ≡ 39) ⊎ (get_or text i 0 ≡ 47)) → IsOneAt text i k operators n → n ≡ i + 1
short_at text i k n l b o = elim b [
  | inl e ↦ short_one text i k operators n l (subst (λ q. all_short q operators ≡ true) (sym e) dollars_short) o
  | inr c ↦ elim c [
    | inl e ↦ short_one text i k operators n l (subst (λ q. all_short q operators ≡ true) (sym e) apostrophes_short) o
    | inr e ↦ short_one text i k operators n l (subst (λ q. all_short q operators ≡ true) (sym e) slashes_short) o
  ]
]
