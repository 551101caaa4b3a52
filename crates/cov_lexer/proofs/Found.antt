-- The piece that begins at a place, by its first byte.
use Rattle.std.proofs.Common.{◌≡◌, ◌≢◌, ℕ, ◌+◌, ◌<◌, ◌≤◌, List, [], ◌∷◌, Bool, true, false, ◌&&◌, ◌⊎◌, inl, inr, cond, codes, eqb, nat_eq, Option, Some, None, IsSome, length, drop, get_or, slice_range, refl, sym, ◌∙◌, ap, subst, arith, drop-cons, suc}
use Rattle.std.proofs.Math.ListN.{drop_of_length-le}
use Rattle.std.proofs.lemmas.Bool.{cases_Bool, cases_lt, eqb-true, eq-eqb, and_parts, or_cases}
use Rattle.std.specs.List.{starts_with}
use Rattle.cov_lexer.specs.declared.bytes.Base.{Base}
use Rattle.cov_lexer.specs.declared.bytes.Base.TheVariants as bases
use Rattle.cov_lexer.specs.declared.token.TokenKind.{TokenKind}
use Rattle.cov_lexer.specs.declared.token.TokenKind.TheVariants.{Ident, Keyword, System, Decimal, Based, Text, Operator, NotSupported}
use Rattle.cov_lexer.specs.Bytes.{is_letter, is_digit, is_word, is_number, is_space, is_blank, is_in_line, is_inside, is_quote, is_dollar, is_slash, is_apostrophe, is_sign, is_base, is_base_digit, is_base_more}
use Rattle.cov_lexer.specs.Spellings.{Spelling, operators, is_keyword}
use Rattle.cov_lexer.specs.Operators.{sort_of, stands, IsOneAt}
use Rattle.cov_lexer.specs.Forms.{One, Many, Passes, HasForm, name, digits, base_and_digits, based, sized, quoted, line_comment, Piece, Separator, Item, Spells, IsPiece}
use Rattle.cov_lexer.specs.Literals.{literal_of, base_of}
use Rattle.cov_lexer.specs.declared.kind.Kind.TheVariants.{Numeral}
use Rattle.cov_lexer.specs.Lexes.{IsToken, IsNothing, IsWithin, IsSpelled, opens_comment}
use Rattle.cov_lexer.specs.Reading.{Runs, IsLongestOf, EndsOf, IsLongestOperator, OnlyOperators, IsClose}
use Rattle.cov_lexer.proofs.Tables.{first_byte, stands_inside, cond_true}
use Rattle.cov_lexer.proofs.Fitting.{inside, run_then, run_last, run_fits}
use Rattle.cov_lexer.proofs.Begins.{begins_byte, letter_above, digit_above, blank_below, letter_begins, digit_begins, blank_begins, quote_begins, dollar_begins, apostrophe_begins, slash_begins, other_begins, no_comment, short_at}

shorter_or : {A : Type 0} (n j : ℕ) (a b : A) → n ≤ j → (n ≡ j → a ≡ b) → (n < j) ⊎ ((n ≡ j) × (a ≡ b))
shorter_or n j a b l h = elim (cases_lt n j) [ inl s ↦ inl s | inr g ↦ inr (omega arith, h (omega arith)) ]

-- blanks

pub blank_piece : (text : List ℕ) (i : ℕ) → i < length text → is_blank (get_or text i 0) ≡ true → IsPiece text i Separator (i + 1)
blank_piece text i l h = record { spells = inl ((l, h), refl); longest = longest }
  where
    small : get_or text i 0 ≤ 32
    small = blank_below _ h

    longest : (p : Piece) (n : ℕ) → Spells text i p n → (n < i + 1) ⊎ ((n ≡ i + 1) × (p ≡ Separator))
    longest p n s =
        let e = blank_begins p _ h (begins_byte text i p n l s) in
        elim (subst (λ q. Spells text i q n) e s) [
          | inl f ↦ inr (sym f.1, e)
          | inr g ↦ elim g [
            | inl f ↦ absurd (let b = eqb-true (get_or text i 0) 47 f.0.1 in let u = small in omega arith)
            | inr c ↦ absurd (let b = first_byte text i 47 (42 ∷ []) l c.opens in let u = small in omega arith)
          ]
        ]

-- names

name_ends : (text : List ℕ) (i j n : ℕ) → Runs is_word text (i + 1) j → HasForm text name i n → n ≤ j
name_ends text i j n r f = run_last is_word text (i + 1) j n r f.1

name_fits : (text : List ℕ) (i j : ℕ) → i < length text → is_letter (get_or text i 0) ≡ true → Runs is_word text (i + 1) j → HasForm text name i j
name_fits text i j l h r = ((l, h), run_fits is_word [] text (i + 1) j j r refl)

pub letter_no_comment : (text : List ℕ) (i : ℕ) → i < length text → is_letter (get_or text i 0) ≡ true → opens_comment text i ≡ false
letter_no_comment text i l h = no_comment text i l (let a = letter_above (get_or text i 0) h in omega arith)

pub keyword_piece : (text : List ℕ) (i j : ℕ) → i < length text → is_letter (get_or text i 0) ≡ true → Runs is_word text (i + 1) j → is_keyword (slice_range text i j) ≡ true → IsPiece text i (Item Keyword) j
keyword_piece text i j l h r w = record { spells = (name_fits text i j l h r, w); longest = longest }
  where
    longest : (p : Piece) (n : ℕ) → Spells text i p n → (n < j) ⊎ ((n ≡ j) × (p ≡ Item Keyword))
    longest p n s = elim (letter_begins p _ h (begins_byte text i p n l s)) [
      | inl e ↦ (let t = subst (λ q. Spells text i q n) e s in
          shorter_or n j p (Item Keyword) (name_ends text i j n r t.0) (λ same. absurd (let u = subst (λ q. is_keyword (slice_range text i q) ≡ false) same t.1 in cc)))
      | inr e ↦ (let t = subst (λ q. Spells text i q n) e s in shorter_or n j p (Item Keyword) (name_ends text i j n r t.0) (λ same. e))
    ]

pub ident_piece : (text : List ℕ) (i j : ℕ) → i < length text → is_letter (get_or text i 0) ≡ true → Runs is_word text (i + 1) j → is_keyword (slice_range text i j) ≡ false → IsPiece text i (Item Ident) j
ident_piece text i j l h r w = record { spells = (name_fits text i j l h r, w); longest = longest }
  where
    longest : (p : Piece) (n : ℕ) → Spells text i p n → (n < j) ⊎ ((n ≡ j) × (p ≡ Item Ident))
    longest p n s = elim (letter_begins p _ h (begins_byte text i p n l s)) [
      | inl e ↦ (let t = subst (λ q. Spells text i q n) e s in shorter_or n j p (Item Ident) (name_ends text i j n r t.0) (λ same. e))
      | inr e ↦ (let t = subst (λ q. Spells text i q n) e s in
          shorter_or n j p (Item Ident) (name_ends text i j n r t.0) (λ same. absurd (let u = subst (λ q. is_keyword (slice_range text i q) ≡ true) same t.1 in cc)))
    ]

-- based literals

pub base_is : (b : Base) (c : ℕ) → is_base b c ≡ true → base_of c ≡ Some b
base_is bases.Binary c h = elim (or_cases (eqb c 98) (eqb c 66) h) [ inl e ↦ subst (λ q. base_of q ≡ Some bases.Binary) (sym (eqb-true c 98 e)) refl | inr e ↦ subst (λ q. base_of q ≡ Some bases.Binary) (sym (eqb-true c 66 e)) refl ]
base_is bases.Octal c h = elim (or_cases (eqb c 111) (eqb c 79) h) [ inl e ↦ subst (λ q. base_of q ≡ Some bases.Octal) (sym (eqb-true c 111 e)) refl | inr e ↦ subst (λ q. base_of q ≡ Some bases.Octal) (sym (eqb-true c 79 e)) refl ]
base_is bases.Decimal c h = elim (or_cases (eqb c 100) (eqb c 68) h) [ inl e ↦ subst (λ q. base_of q ≡ Some bases.Decimal) (sym (eqb-true c 100 e)) refl | inr e ↦ subst (λ q. base_of q ≡ Some bases.Decimal) (sym (eqb-true c 68 e)) refl ]
base_is bases.Hexadecimal c h = elim (or_cases (eqb c 104) (eqb c 72) h) [ inl e ↦ subst (λ q. base_of q ≡ Some bases.Hexadecimal) (sym (eqb-true c 104 e)) refl | inr e ↦ subst (λ q. base_of q ≡ Some bases.Hexadecimal) (sym (eqb-true c 72 e)) refl ]

pick : (t : Bool) (x b : Base) (more : Option Base) → cond t (Some x) more ≡ Some b → ((t ≡ true) × (x ≡ b)) ⊎ (more ≡ Some b)
pick true x b more h = inl (refl, cc)
pick false x b more h = inr h

pub base_letter : (b : Base) (c : ℕ) → base_of c ≡ Some b → is_base b c ≡ true
base_letter b c h = elim (pick (is_base bases.Binary c) bases.Binary b _ h) [
  | inl e ↦ subst (λ q. is_base q c ≡ true) e.1 e.0
  | inr h2 ↦ elim (pick (is_base bases.Octal c) bases.Octal b _ h2) [
    | inl e ↦ subst (λ q. is_base q c ≡ true) e.1 e.0
    | inr h3 ↦ elim (pick (is_base bases.Decimal c) bases.Decimal b _ h3) [
      | inl e ↦ subst (λ q. is_base q c ≡ true) e.1 e.0
      | inr h4 ↦ elim (pick (is_base bases.Hexadecimal c) bases.Hexadecimal b None h4) [
        | inl e ↦ subst (λ q. is_base q c ≡ true) e.1 e.0
        | inr h5 ↦ absurd (cc)
      ]
    ]
  ]
]

pub no_base_zero : (b : Base) → is_base b 0 ≡ false
no_base_zero bases.Binary = refl
no_base_zero bases.Octal = refl
no_base_zero bases.Decimal = refl
no_base_zero bases.Hexadecimal = refl

pub no_digit_zero : (b : Base) → is_base_digit b 0 ≡ false
no_digit_zero bases.Binary = refl
no_digit_zero bases.Octal = refl
no_digit_zero bases.Decimal = refl
no_digit_zero bases.Hexadecimal = refl

pub no_digit_space : (b : Base) → is_base_digit b 32 ≡ false
no_digit_space bases.Binary = refl
no_digit_space bases.Octal = refl
no_digit_space bases.Decimal = refl
no_digit_space bases.Hexadecimal = refl

pub base_passes : (text : List ℕ) (i : ℕ) (b : Base) → base_of (get_or text i 0) ≡ Some b → Passes (is_base b) text i
base_passes text i b h = inside (is_base b) text i (no_base_zero b) (base_letter b _ h)

pub digit_passes : (text : List ℕ) (i : ℕ) (b : Base) → is_base_digit b (get_or text i 0) ≡ true → Passes (is_base_digit b) text i
digit_passes text i b h = inside (is_base_digit b) text i (no_digit_zero b) h

-- no digit is a space
spaces_avoid : (text : List ℕ) (b : Base) (q k : ℕ) → Passes is_space text q → HasForm text (digits b) q k → ⊥
spaces_avoid text b q k s f = let e = eqb-true (get_or text q 0) 32 s.1 in let g = subst (λ c. is_base_digit b c ≡ true) e f.0.1 in let z = no_digit_space b in absurd (cc)

same_base : (text : List ℕ) (i : ℕ) (b b' : Base) (n : ℕ) → base_of (get_or text i 0) ≡ Some b → HasForm text (base_and_digits b') i n → b' ≡ b
same_base text i b b' n h f = let e = base_is b' _ f.0.1 in cc

behind_base : (text : List ℕ) (i m n : ℕ) (b : Base) → Runs is_space text (i + 1) m → HasForm text (base_and_digits b) i n → HasForm text (digits b) m n
behind_base text i m n b r f = run_then is_space (digits b) text (i + 1) m n r (spaces_avoid text b) f.1

pub marked_without_base : (text : List ℕ) (i : ℕ) → base_of (get_or text i 0) ≡ None → (b : Base) (n : ℕ) → HasForm text (base_and_digits b) i n → ⊥
marked_without_base text i h b n f = let e = base_is b _ f.0.1 in absurd (cc)

pub marked_without_digit : (text : List ℕ) (i m : ℕ) (base : Base) → base_of (get_or text i 0) ≡ Some base → Runs is_space text (i + 1) m → is_base_digit base (get_or text m 0) ≡ false →
    (b : Base) (n : ℕ) → HasForm text (base_and_digits b) i n → ⊥
marked_without_digit text i m base h r d b n f =
    let e = same_base text i base b n h f in
    let g = behind_base text i m n base r (subst (λ q. HasForm text (base_and_digits q) i n) e f) in
    absurd (let k = g.0.1 in cc)

pub marked_longest : (text : List ℕ) (i m j : ℕ) (base : Base) → base_of (get_or text i 0) ≡ Some base → Runs is_space text (i + 1) m → is_base_digit base (get_or text m 0) ≡ true →
    Runs (is_base_more base) text (m + 1) j → IsLongestOf base_and_digits text i j
marked_longest text i m j base h r d more = record {
  base = base;
  fits = (base_passes text i base h, run_fits is_space (digits base) text (i + 1) m j r (digit_passes text m base d, run_fits (is_base_more base) [] text (m + 1) j j more refl));
  longest = λ b n f.
      let e = same_base text i base b n h f in
      let g = behind_base text i m n base r (subst (λ q. HasForm text (base_and_digits q) i n) e f) in
      run_last (is_base_more base) text (m + 1) j n more g.1;
  more = (let a = r.from in let c = more.from in omega arith);
  inside = more.inside;
}

pub no_base_sign : (b : Base) (c : ℕ) → is_sign c ≡ true → is_base b c ≡ true → ⊥
no_base_sign b c s h = let e = base_is b c h in elim (or_cases (eqb c 115) (eqb c 83) s) [
  | inl k ↦ absurd (let g = subst (λ q. base_of q ≡ Some b) (eqb-true c 115 k) e in cc)
  | inr k ↦ absurd (let g = subst (λ q. base_of q ≡ Some b) (eqb-true c 83 k) e in cc)
]

-- what a based literal has behind its apostrophe and sign
unsigned_rest : (text : List ℕ) (i n : ℕ) (b : Base) → is_sign (get_or text (i + 1) 0) ≡ false → HasForm text (based b) i n → HasForm text (base_and_digits b) (i + 1) n
unsigned_rest text i n b s f = elim f.1 [ inl g ↦ g | inr g ↦ absurd (let k = g.0.1 in cc) ]

signed_rest : (text : List ℕ) (i n : ℕ) (b : Base) → is_sign (get_or text (i + 1) 0) ≡ true → HasForm text (based b) i n → HasForm text (base_and_digits b) (i + 2) n
signed_rest text i n b s f = elim f.1 [
  | inl g ↦ absurd (no_base_sign b _ s g.0.1)
  | inr g ↦ (let e : i + 1 + 1 ≡ i + 2 = omega arith in subst (λ q. HasForm text (base_and_digits b) q n) e g.1)
]

pub based_without_apostrophe : (text : List ℕ) (i : ℕ) → get_or text i 0 ≢ 39 → (b : Base) (n : ℕ) → HasForm text (based b) i n → ⊥
based_without_apostrophe text i h b n f = h (eqb-true _ 39 f.0.1)

pub apostrophe_passes : (text : List ℕ) (i : ℕ) → get_or text i 0 ≡ 39 → Passes is_apostrophe text i
apostrophe_passes text i h = inside is_apostrophe text i refl (subst (λ q. is_apostrophe q ≡ true) (sym h) refl)

pub sign_passes : (text : List ℕ) (i : ℕ) → is_sign (get_or text i 0) ≡ true → Passes is_sign text i
sign_passes text i h = inside is_sign text i refl h

pub based_signed : (text : List ℕ) (i : ℕ) (r : Option ℕ) → get_or text i 0 ≡ 39 → is_sign (get_or text (i + 1) 0) ≡ true → EndsOf base_and_digits text (i + 2) r → EndsOf based text i r
based_signed text i None a s h = λ b n f. h b n (signed_rest text i n b s f)
based_signed text i (Some j) a s h = record {
  base = h.base;
  fits = (apostrophe_passes text i a, inr (sign_passes text (i + 1) s, (let e : i + 2 ≡ i + 1 + 1 = omega arith in subst (λ q. HasForm text (base_and_digits h.base) q j) e h.fits)));
  longest = λ b n f. h.longest b n (signed_rest text i n b s f);
  more = (let m = h.more in omega arith);
  inside = h.inside;
}

pub based_unsigned : (text : List ℕ) (i : ℕ) (r : Option ℕ) → get_or text i 0 ≡ 39 → is_sign (get_or text (i + 1) 0) ≡ false → EndsOf base_and_digits text (i + 1) r → EndsOf based text i r
based_unsigned text i None a s h = λ b n f. h b n (unsigned_rest text i n b s f)
based_unsigned text i (Some j) a s h = record {
  base = h.base;
  fits = (apostrophe_passes text i a, inl h.fits);
  longest = λ b n f. h.longest b n (unsigned_rest text i n b s f);
  more = (let m = h.more in omega arith);
  inside = h.inside;
}

-- numbers that begin with a digit

space_no_apostrophe : (text : List ℕ) (b : Base) (q k : ℕ) → Passes is_space text q → HasForm text (based b) q k → ⊥
space_no_apostrophe text b q k s f = let e = eqb-true (get_or text q 0) 32 s.1 in let g = eqb-true (get_or text q 0) 39 f.0.1 in absurd (omega (arith, e, g))

pub number_no_space : (c : ℕ) → is_number c ≡ true → is_space c ≡ true → ⊥
number_no_space c h s = let e = eqb-true c 32 s in let g = subst (λ q. is_number q ≡ true) e h in absurd (cc)

pub number_no_apostrophe : (c : ℕ) → is_number c ≡ true → is_apostrophe c ≡ true → ⊥
number_no_apostrophe c h s = let e = eqb-true c 39 s in let g = subst (λ q. is_number q ≡ true) e h in absurd (cc)

number_avoids : (text : List ℕ) (b : Base) (q k : ℕ) → Passes is_number text q → HasForm text (Many is_space ∷ based b) q k → ⊥
number_avoids text b q k s f = elim (cases_lt q f.0) [
  | inl l ↦ number_no_space _ s.1 (f.3 q (omega arith) l)
  | inr l ↦ (let o = f.1 in let e : f.0 ≡ q = omega arith in let g = subst (λ m. HasForm text (based b) m k) e f.4 in number_no_apostrophe _ s.1 g.0.1)
]

sized_rest : (text : List ℕ) (i j a n : ℕ) (b : Base) → Runs is_number text (i + 1) j → Runs is_space text j a → HasForm text (sized b) i n → HasForm text (based b) a n
sized_rest text i j a n b r s f = run_then is_space (based b) text j a n s (space_no_apostrophe text b)
    (run_then is_number (Many is_space ∷ based b) text (i + 1) j n r (number_avoids text b) f.1)

pub digit_no_apostrophe : (c : ℕ) → is_digit c ≡ true → is_apostrophe c ≡ true → ⊥
digit_no_apostrophe c h s = let e = eqb-true c 39 s in let g = subst (λ q. is_digit q ≡ true) e h in absurd (cc)

pub digit_no_comment : (text : List ℕ) (i : ℕ) → i < length text → is_digit (get_or text i 0) ≡ true → opens_comment text i ≡ false
digit_no_comment text i l h = no_comment text i l (let a = digit_above (get_or text i 0) h in omega arith)

-- how a based literal ends that begins with a digit
sized_ends : (text : List ℕ) (i j a n : ℕ) → is_digit (get_or text i 0) ≡ true → Runs is_number text (i + 1) j → Runs is_space text j a → Spells text i (Item Based) n →
    (b : Base) × HasForm text (based b) a n
sized_ends text i j a n h r s f = elim f.1 [
  | inl g ↦ absurd (digit_no_apostrophe _ h g.0.1)
  | inr g ↦ (f.0, sized_rest text i j a n f.0 r s g)
]

pub decimal_piece : (text : List ℕ) (i j a : ℕ) → i < length text → is_digit (get_or text i 0) ≡ true → Runs is_number text (i + 1) j → Runs is_space text j a →
    ((b : Base) (n : ℕ) → HasForm text (based b) a n → ⊥) → IsPiece text i (Item Decimal) j
decimal_piece text i j a l h r s none = record { spells = ((l, h), run_fits is_number [] text (i + 1) j j r refl); longest = longest }
  where
    longest : (p : Piece) (n : ℕ) → Spells text i p n → (n < j) ⊎ ((n ≡ j) × (p ≡ Item Decimal))
    longest p n f = elim (digit_begins p _ h (begins_byte text i p n l f)) [
      | inl e ↦ (let t = subst (λ q. Spells text i q n) e f in shorter_or n j p (Item Decimal) (run_last is_number text (i + 1) j n r t.1) (λ same. e))
      | inr e ↦ absurd (let t = sized_ends text i j a n h r s (subst (λ q. Spells text i q n) e f) in none t.0 n t.1)
    ]

pub sized_piece : (text : List ℕ) (i j a m : ℕ) → i < length text → is_digit (get_or text i 0) ≡ true → Runs is_number text (i + 1) j → Runs is_space text j a →
    IsLongestOf based text a m → IsPiece text i (Item Based) m
sized_piece text i j a m l h r s b = record {
  spells = (b.base, inr ((l, h), run_fits is_number (Many is_space ∷ based b.base) text (i + 1) j m r (run_fits is_space (based b.base) text j a m s b.fits)));
  longest = longest;
}
  where
    longest : (p : Piece) (n : ℕ) → Spells text i p n → (n < m) ⊎ ((n ≡ m) × (p ≡ Item Based))
    longest p n f = elim (digit_begins p _ h (begins_byte text i p n l f)) [
      | inl e ↦ (let t = subst (λ q. Spells text i q n) e f in let u = run_last is_number text (i + 1) j n r t.1 in let v = s.from in let w = b.more in inl (omega arith))
      | inr e ↦ (let t = sized_ends text i j a n h r s (subst (λ q. Spells text i q n) e f) in shorter_or n m p (Item Based) (b.longest t.0 n t.1) (λ same. e))
    ]

-- literals without size, and the apostrophe

pub unsized_piece : (text : List ℕ) (i m : ℕ) → i < length text → get_or text i 0 ≡ 39 → IsLongestOf based text i m → IsPiece text i (Item Based) m
unsized_piece text i m l h b = record { spells = (b.base, inl b.fits); longest = longest }
  where
    short : (p : Piece) (k : TokenKind) (n : ℕ) → IsOneAt text i k operators n → (n < m) ⊎ ((n ≡ m) × (p ≡ Item Based))
    short p k n o = let e = short_at text i k n l (inr (inl h)) o in let w = b.more in inl (omega arith)

    longest : (p : Piece) (n : ℕ) → Spells text i p n → (n < m) ⊎ ((n ≡ m) × (p ≡ Item Based))
    longest p n f = elim (apostrophe_begins p _ h (begins_byte text i p n l f)) [
      | inl e ↦ (let t = subst (λ q. Spells text i q n) e f in elim t.1 [
        | inl g ↦ shorter_or n m p (Item Based) (b.longest t.0 n g) (λ same. e)
        | inr g ↦ absurd (let k = subst (λ q. is_digit q ≡ true) h g.0.1 in cc)
      ])
      | inr o ↦ elim o [
        | inl e ↦ short p Operator n (subst (λ q. Spells text i q n) e f)
        | inr e ↦ short p NotSupported n (subst (λ q. Spells text i q n) e f)
      ]
    ]

pub apostrophe_no_comment : (text : List ℕ) (i : ℕ) → i < length text → get_or text i 0 ≡ 39 → opens_comment text i ≡ false
apostrophe_no_comment text i l h = no_comment text i l (omega arith)

pub apostrophe_alone : (text : List ℕ) (i : ℕ) → i < length text → get_or text i 0 ≡ 39 → ((b : Base) (n : ℕ) → HasForm text (based b) i n → ⊥) → OnlyOperators text i
apostrophe_alone text i l h none = record { others = others; no_comment = apostrophe_no_comment text i l h }
  where
    others : (p : Piece) (n : ℕ) → Spells text i p n → (p ≡ Item Operator) ⊎ (p ≡ Item NotSupported)
    others p n f = elim (apostrophe_begins p _ h (begins_byte text i p n l f)) [
      | inl e ↦ absurd (let t = subst (λ q. Spells text i q n) e f in elim t.1 [
        | inl g ↦ none t.0 n g
        | inr g ↦ (let k = subst (λ q. is_digit q ≡ true) h g.0.1 in absurd (cc))
      ])
      | inr o ↦ o
    ]

-- system names, and the dollar sign

word_at : (text : List ℕ) (i j : ℕ) → Runs is_word text (i + 1) j → j ≢ i + 1 → Passes is_word text (i + 1) × Runs is_word text (i + 1 + 1) j
word_at text i j r ne =
    let a = r.from in let u = r.inside in
    ((omega arith, r.all (i + 1) (omega arith) (omega arith)), record { from = omega arith; inside = r.inside; all = λ q h k. r.all q (omega arith) k; stops = r.stops })

pub system_piece : (text : List ℕ) (i j : ℕ) → i < length text → get_or text i 0 ≡ 36 → Runs is_word text (i + 1) j → j ≢ i + 1 → IsPiece text i (Item System) j
system_piece text i j l h r ne = record {
  spells = ((l, subst (λ q. is_dollar q ≡ true) (sym h) refl), ((word_at text i j r ne).0, run_fits is_word [] text (i + 1 + 1) j j (word_at text i j r ne).1 refl));
  longest = longest;
}
  where
    short : (p : Piece) (k : TokenKind) (n : ℕ) → IsOneAt text i k operators n → (n < j) ⊎ ((n ≡ j) × (p ≡ Item System))
    short p k n o = let e = short_at text i k n l (inl h) o in let w = r.from in inl (omega arith)

    longest : (p : Piece) (n : ℕ) → Spells text i p n → (n < j) ⊎ ((n ≡ j) × (p ≡ Item System))
    longest p n f = elim (dollar_begins p _ h (begins_byte text i p n l f)) [
      | inl e ↦ (let t = subst (λ q. Spells text i q n) e f in shorter_or n j p (Item System) (run_last is_word text (i + 1 + 1) j n (word_at text i j r ne).1 t.1.1) (λ same. e))
      | inr o ↦ elim o [
        | inl e ↦ short p Operator n (subst (λ q. Spells text i q n) e f)
        | inr e ↦ short p NotSupported n (subst (λ q. Spells text i q n) e f)
      ]
    ]

pub dollar_no_comment : (text : List ℕ) (i : ℕ) → i < length text → get_or text i 0 ≡ 36 → opens_comment text i ≡ false
dollar_no_comment text i l h = no_comment text i l (omega arith)

pub dollar_alone : (text : List ℕ) (i j : ℕ) → i < length text → get_or text i 0 ≡ 36 → Runs is_word text (i + 1) j → j ≡ i + 1 → OnlyOperators text i
dollar_alone text i j l h r e = record { others = others; no_comment = dollar_no_comment text i l h }
  where
    others : (p : Piece) (n : ℕ) → Spells text i p n → (p ≡ Item Operator) ⊎ (p ≡ Item NotSupported)
    others p n f = elim (dollar_begins p _ h (begins_byte text i p n l f)) [
      | inl s ↦ absurd (let t = subst (λ q. Spells text i q n) s f in let w = t.1.0 in
          let stop = subst (λ q. is_word (get_or text q 0) ≡ false) e (r.stops (let v = w.0 in omega arith)) in let k = w.1 in cc)
      | inr o ↦ o
    ]

-- strings

quotes_avoid : (text : List ℕ) (q k : ℕ) → Passes is_inside text q → HasForm text (One is_quote ∷ []) q k → ⊥
quotes_avoid text q k s f = let e = eqb-true (get_or text q 0) 34 f.0.1 in let g = subst (λ c. is_inside c ≡ true) e s.1 in absurd (cc)

string_rest : (text : List ℕ) (i j n : ℕ) → Runs is_inside text (i + 1) j → HasForm text quoted i n → HasForm text (One is_quote ∷ []) j n
string_rest text i j n r f = run_then is_inside (One is_quote ∷ []) text (i + 1) j n r (quotes_avoid text) f.1

quote_passes : (text : List ℕ) (i : ℕ) → get_or text i 0 ≡ 34 → Passes is_quote text i
quote_passes text i h = inside is_quote text i refl (subst (λ q. is_quote q ≡ true) (sym h) refl)

pub quote_inside : (text : List ℕ) (i : ℕ) → get_or text i 0 ≡ 34 → i < length text
quote_inside text i h = (quote_passes text i h).0

pub quote_no_comment : (text : List ℕ) (i : ℕ) → i < length text → get_or text i 0 ≡ 34 → opens_comment text i ≡ false
quote_no_comment text i l h = no_comment text i l (omega arith)

pub string_piece : (text : List ℕ) (i j : ℕ) → i < length text → get_or text i 0 ≡ 34 → Runs is_inside text (i + 1) j → get_or text j 0 ≡ 34 → IsPiece text i (Item Text) (j + 1)
string_piece text i j l h r q = record { spells = (quote_passes text i h, run_fits is_inside (One is_quote ∷ []) text (i + 1) j (j + 1) r (quote_passes text j q, refl)); longest = longest }
  where
    longest : (p : Piece) (n : ℕ) → Spells text i p n → (n < j + 1) ⊎ ((n ≡ j + 1) × (p ≡ Item Text))
    longest p n f = let e = quote_begins p _ h (begins_byte text i p n l f) in
        let t = string_rest text i j n r (subst (λ q. Spells text i q n) e f) in
        inr (sym t.1, e)

pub string_open : (text : List ℕ) (i j : ℕ) → i < length text → get_or text i 0 ≡ 34 → Runs is_inside text (i + 1) j → get_or text j 0 ≢ 34 → IsNothing text i
string_open text i j l h r q = (l, quote_no_comment text i l h, none)
  where
    none : (p : Piece) (n : ℕ) → Spells text i p n → ⊥
    none p n f = let e = quote_begins p _ h (begins_byte text i p n l f) in
        let t = string_rest text i j n r (subst (λ q. Spells text i q n) e f) in
        q (eqb-true _ 34 t.0.1)

-- operators

abbrev is_operator : TokenKind → Bool
is_operator Operator = true
is_operator NotSupported = true
is_operator Ident = false
is_operator Keyword = false
is_operator System = false
is_operator Decimal = false
is_operator Based = false
is_operator Text = false

abbrev all_operators : List Spelling → Bool
all_operators [] = true
all_operators (s ∷ ss) = cond (is_operator (sort_of s.kind)) (all_operators ss) false

operator_kind : (text : List ℕ) (i : ℕ) (k : TokenKind) (ss : List Spelling) (n : ℕ) → all_operators ss ≡ true → IsOneAt text i k ss n → is_operator k ≡ true
unfolding IsOneAt
operator_kind text i k [] n h o = absurd o
operator_kind text i k (s ∷ ss) n h o =
    let a = cond_true (is_operator (sort_of s.kind)) (all_operators ss) h in
    elim o [ inl q ↦ subst (λ x. is_operator x ≡ true) q.0 a.0 | inr q ↦ operator_kind text i k ss n a.1 q ]

operators_are : all_operators operators ≡ true
unfolding operators
operators_are = refl

operator_longest : (text : List ℕ) (i j : ℕ) (k : TokenKind) → OnlyOperators text i → IsLongestOperator text i k j →
    (p : Piece) (n : ℕ) → Spells text i p n → (n < j) ⊎ ((n ≡ j) × (p ≡ Item k))
operator_longest text i j k only o p n s = elim (only.others p n s) [
  | inl e ↦ elim (o.longest Operator n (subst (λ q. Spells text i q n) e s)) [ inl l ↦ inl l | inr m ↦ inr (m.0, e ∙ ap Item m.1) ]
  | inr e ↦ elim (o.longest NotSupported n (subst (λ q. Spells text i q n) e s)) [ inl l ↦ inl l | inr m ↦ inr (m.0, e ∙ ap Item m.1) ]
]

operator_of : (text : List ℕ) (i j : ℕ) (k : TokenKind) → is_operator k ≡ true → OnlyOperators text i → IsLongestOperator text i k j → IsToken text i k j
operator_of text i j Operator h only o = record { piece = record { spells = o.spells; longest = operator_longest text i j Operator only o }; no_comment = only.no_comment; within = tt }
operator_of text i j NotSupported h only o = record { piece = record { spells = o.spells; longest = operator_longest text i j NotSupported only o }; no_comment = only.no_comment; within = tt }
operator_of text i j Ident h only o = absurd (cc)
operator_of text i j Keyword h only o = absurd (cc)
operator_of text i j System h only o = absurd (cc)
operator_of text i j Decimal h only o = absurd (cc)
operator_of text i j Based h only o = absurd (cc)
operator_of text i j Text h only o = absurd (cc)

pub operator_token : (text : List ℕ) (i j : ℕ) (k : TokenKind) → OnlyOperators text i → IsLongestOperator text i k j → IsToken text i k j
operator_token text i j k only o = operator_of text i j k (operator_kind text i k operators j operators_are o.spells) only o

-- a numeral spells a number
pub numeral_spelled : (text : List ℕ) (i j : ℕ) (k : TokenKind) → (k ≡ Decimal) ⊎ (k ≡ Based) → IsSpelled text i k j Numeral
numeral_spelled text i j k h = elim h [
  | inl e ↦ subst (λ (z : TokenKind). IsSpelled text i z j Numeral) (sym e) refl
  | inr e ↦ subst (λ (z : TokenKind). IsSpelled text i z j Numeral) (sym e) refl
]

pub operator_nothing : (text : List ℕ) (i : ℕ) → i < length text → OnlyOperators text i → ((k : TokenKind) (n : ℕ) → IsOneAt text i k operators n → ⊥) → IsNothing text i
operator_nothing text i l only none = (l, only.no_comment, nothing)
  where
    nothing : (p : Piece) (n : ℕ) → Spells text i p n → ⊥
    nothing p n s = elim (only.others p n s) [
      | inl e ↦ none Operator n (subst (λ q. Spells text i q n) e s)
      | inr e ↦ none NotSupported n (subst (λ q. Spells text i q n) e s)
    ]

pub other_only : (text : List ℕ) (i : ℕ) → i < length text → is_blank (get_or text i 0) ≡ false → is_letter (get_or text i 0) ≡ false → is_digit (get_or text i 0) ≡ false →
    get_or text i 0 ≢ 34 → get_or text i 0 ≢ 36 → get_or text i 0 ≢ 39 → get_or text i 0 ≢ 47 → OnlyOperators text i
other_only text i l bl le di n34 n36 n39 n47 = record {
  others = λ p n s. other_begins p _ bl le di n34 n36 n39 n47 (begins_byte text i p n l s);
  no_comment = no_comment text i l n47;
}

-- comments, and the slash

two_bytes : (text : List ℕ) (i : ℕ) → suc i < length text → drop i text ≡ get_or text i 0 ∷ (get_or text (suc i) 0 ∷ drop (suc (suc i)) text)
two_bytes text i l = let l0 : i < length text = omega arith in
    drop-cons text i 0 l0 ∙ ap (λ xs. get_or text i 0 ∷ xs) (drop-cons text (suc i) 0 l)

second_byte : (text : List ℕ) (i a b : ℕ) → i < length text → stands text i (a ∷ b ∷ []) ≡ true → (i + 1 < length text) × (get_or text (i + 1) 0 ≡ b)
unfolding stands
second_byte text i a b l h =
    let u : i + 2 ≤ length text = stands_inside text i (a ∷ b ∷ []) (omega arith) h in
    let l1 : suc i < length text = omega arith in
    let g = subst (λ xs. starts_with nat_eq xs (a ∷ b ∷ []) ≡ true) (two_bytes text i l1) h in
    let m = (and_parts (eqb b (get_or text (suc i) 0)) true (and_parts (eqb a (get_or text i 0)) (eqb b (get_or text (suc i) 0) && true) g).1).0 in
    let e : suc i ≡ i + 1 = omega arith in
    (omega arith, subst (λ q. get_or text q 0 ≡ b) e (sym (eqb-true b (get_or text (suc i) 0) m)))

stands_two : (text : List ℕ) (i a b : ℕ) → i + 1 < length text → get_or text i 0 ≡ a → get_or text (i + 1) 0 ≡ b → stands text i (a ∷ b ∷ []) ≡ true
unfolding stands
stands_two text i a b l h k =
    let l1 : suc i < length text = omega arith in
    let e : i + 1 ≡ suc i = omega arith in
    let k1 = subst (λ q. get_or text q 0 ≡ b) e k in
    let x : eqb a (get_or text i 0) ≡ true = eq-eqb _ _ (sym h) in
    let y : eqb b (get_or text (suc i) 0) ≡ true = eq-eqb _ _ (sym k1) in
    subst (λ xs. starts_with nat_eq xs (a ∷ b ∷ []) ≡ true) (sym (two_bytes text i l1)) (rw (x, y) refl)

slash_passes : (text : List ℕ) (i : ℕ) → get_or text i 0 ≡ 47 → Passes is_slash text i
slash_passes text i h = inside is_slash text i refl (subst (λ q. is_slash q ≡ true) (sym h) refl)

blank_no_slash : (b : ℕ) → b ≡ 47 → is_blank b ≡ true → ⊥
blank_no_slash b e h = let g = subst (λ q. is_blank q ≡ true) e h in absurd (cc)

-- the two ways in which a comment opens
line_no_block : (text : List ℕ) (i : ℕ) → i < length text → stands text i (codes "//") ≡ true → stands text i (codes "/*") ≡ true → ⊥
line_no_block text i l h k = let a = (second_byte text i 47 47 l h).1 in let b = (second_byte text i 47 42 l k).1 in absurd (omega (arith, a, b))

line_stands : (text : List ℕ) (i n : ℕ) → HasForm text line_comment i n → stands text i (codes "//") ≡ true
line_stands text i n f = stands_two text i 47 47 f.1.0.0 (eqb-true _ 47 f.0.1) (eqb-true _ 47 f.1.0.1)

slash_short : (text : List ℕ) (i j n : ℕ) (p : Piece) (k : TokenKind) → i < length text → get_or text i 0 ≡ 47 → i + 1 < j → IsOneAt text i k operators n → (n < j) ⊎ ((n ≡ j) × (p ≡ Separator))
slash_short text i j n p k l h m o = let e = short_at text i k n l (inr (inr h)) o in inl (omega arith)

slash_pieces : (text : List ℕ) (i j : ℕ) → i < length text → get_or text i 0 ≡ 47 → i + 1 < j → ((n : ℕ) → Spells text i Separator n → n ≤ j) →
    (p : Piece) (n : ℕ) → Spells text i p n → (n < j) ⊎ ((n ≡ j) × (p ≡ Separator))
slash_pieces text i j l h m most p n f = elim (slash_begins p _ h (begins_byte text i p n l f)) [
  | inl e ↦ shorter_or n j p Separator (most n (subst (λ q. Spells text i q n) e f)) (λ same. e)
  | inr o ↦ elim o [
    | inl e ↦ slash_short text i j n p Operator l h m (subst (λ q. Spells text i q n) e f)
    | inr e ↦ slash_short text i j n p NotSupported l h m (subst (λ q. Spells text i q n) e f)
  ]
]

pub line_inside : (text : List ℕ) (i : ℕ) → i < length text → stands text i (codes "//") ≡ true → i + 2 ≤ length text
line_inside text i l h = stands_inside text i (47 ∷ 47 ∷ []) (omega arith) h

pub block_inside : (text : List ℕ) (i : ℕ) → i < length text → stands text i (codes "/*") ≡ true → i + 2 ≤ length text
block_inside text i l h = stands_inside text i (47 ∷ 42 ∷ []) (omega arith) h

pub line_piece : (text : List ℕ) (i j : ℕ) → i < length text → get_or text i 0 ≡ 47 → stands text i (codes "//") ≡ true → Runs is_in_line text (i + 2) j → IsPiece text i Separator j
line_piece text i j l h s r = record {
  spells = inr (inl (slash_passes text i h, (slash_passes text (i + 1) (second_byte text i 47 47 l s).1, (let e : i + 2 ≡ i + 1 + 1 = omega arith in subst (λ q. HasForm text (Many is_in_line ∷ []) q j) e (run_fits is_in_line [] text (i + 2) j j r refl)))));
  longest = slash_pieces text i j l h (let a = r.from in omega arith) most;
}
  where
    most : (n : ℕ) → Spells text i Separator n → n ≤ j
    most n f = elim f [
      | inl b ↦ absurd (blank_no_slash _ h b.0.1)
      | inr g ↦ elim g [
        | inl c ↦ (let e : i + 1 + 1 ≡ i + 2 = omega arith in run_last is_in_line text (i + 2) j n r (subst (λ q. HasForm text (Many is_in_line ∷ []) q n) e c.1.1))
        | inr c ↦ absurd (line_no_block text i l s c.opens)
      ]
    ]

pub block_piece : (text : List ℕ) (i close : ℕ) → i < length text → get_or text i 0 ≡ 47 → stands text i (codes "/*") ≡ true → IsClose text (i + 2) close → IsPiece text i Separator (close + 2)
block_piece text i close l h s k = record {
  spells = inr (inr (record { opens = s; close = close; behind = k.behind; closes = k.closes; first = k.first; ends = refl }));
  longest = slash_pieces text i (close + 2) l h (let a = k.behind in omega arith) most;
}
  where
    most : (n : ℕ) → Spells text i Separator n → n ≤ close + 2
    most n f = elim f [
      | inl b ↦ absurd (blank_no_slash _ h b.0.1)
      | inr g ↦ elim g [
        | inl c ↦ absurd (line_no_block text i l (line_stands text i n c) s)
        | inr c ↦ elim (cases_lt close c.close) [
          | inl o ↦ absurd (let a = c.first close k.behind o in let b = k.closes in cc)
          | inr o ↦ (let e = c.ends in omega arith)
        ]
      ]
    ]

pub block_open : (text : List ℕ) (i : ℕ) → i < length text → get_or text i 0 ≡ 47 → stands text i (codes "/*") ≡ true → ((q : ℕ) → i + 2 ≤ q → stands text q (codes "*/") ≡ false) →
    (n : ℕ) → Spells text i Separator n → ⊥
block_open text i l h s none n f = elim f [
  | inl b ↦ absurd (blank_no_slash _ h b.0.1)
  | inr g ↦ elim g [
    | inl c ↦ absurd (line_no_block text i l (line_stands text i n c) s)
    | inr c ↦ absurd (let a = none c.close c.behind in let b = c.closes in cc)
  ]
]

pub slash_alone : (text : List ℕ) (i : ℕ) → i < length text → get_or text i 0 ≡ 47 → stands text i (codes "//") ≡ false → stands text i (codes "/*") ≡ false → OnlyOperators text i
slash_alone text i l h s k = record { others = others; no_comment = k }
  where
    others : (p : Piece) (n : ℕ) → Spells text i p n → (p ≡ Item Operator) ⊎ (p ≡ Item NotSupported)
    others p n f = elim (slash_begins p _ h (begins_byte text i p n l f)) [
      | inl e ↦ absurd (elim (subst (λ q. Spells text i q n) e f) [
        | inl b ↦ blank_no_slash _ h b.0.1
        | inr g ↦ elim g [
          | inl c ↦ (let a = line_stands text i n c in absurd (cc))
          | inr c ↦ (let a = c.opens in absurd (cc))
        ]
      ])
      | inr o ↦ o
    ]

pub close_inside : (text : List ℕ) (q : ℕ) → q ≤ length text → stands text q (codes "*/") ≡ true → q + 2 ≤ length text
close_inside text q l h = stands_inside text q (42 ∷ 47 ∷ []) l h

past_two : (text : List ℕ) (q : ℕ) → length text ≤ q → stands text q (codes "*/") ≡ true → ⊥
unfolding stands
past_two text q l s = let e : drop q text ≡ [] = drop_of_length-le text l in let g = rw e at s in absurd (cc)

-- nothing stands behind the end
pub close_past : (text : List ℕ) (q : ℕ) → length text ≤ q → stands text q (codes "*/") ≡ false
close_past text q l = elim (cases_Bool (stands text q (codes "*/"))) [
  | inl s ↦ absurd (past_two text q l s)
  | inr s ↦ s
]

-- literals

pub literal_within : (text : List ℕ) (i j : ℕ) (k : TokenKind) → (k ≡ Decimal) ⊎ (k ≡ Based) → IsSome (literal_of (slice_range text i j)) → IsWithin text i k j
literal_within text i j k h s = elim h [
  | inl e ↦ subst (λ q. IsWithin text i q j) (sym e) s
  | inr e ↦ subst (λ q. IsWithin text i q j) (sym e) s
]
