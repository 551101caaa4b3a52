-- The meaning of a text is that of the literal which it is.
use Rattle.std.proofs.Common.{◌≡◌, ◌≢◌, ℕ, ◌+◌, ◌-◌, ◌<◌, ◌≤◌, List, [], ◌∷◌, Bool, true, false, ◌⊎◌, inl, inr, cond, nat_eq, Option, Some, None, length, take, drop, get_or, slice_range, length-take, refl, sym, ◌∙◌, subst, arith, length-drop}
use Rattle.std.specs.List.{prefix_len}
use Rattle.std.proofs.lemmas.Bool.{cases_Bool, cases_lt, cases_order, eqb-true, eq-eqb, ne_eqb, and_parts}
use Rattle.std.proofs.lemmas.List.{get_or-drop, get_or-take}
use Rattle.std.proofs.lemmas.List.Sums.{prefix_len-le-length, prefix_len_passes, prefix_len_stops}
use Rattle.cov_lexer.specs.declared.bytes.Base.{Base}
use Rattle.cov_lexer.specs.declared.bytes.Base.TheVariants as bases
use Rattle.cov_tree.specs.declared.literal.Literal.{Literal}
use Rattle.cov_lexer.specs.declared.token.TokenKind.TheVariants.{Based, Decimal as Number}
use Rattle.cov_lexer.specs.Bytes.{is_digit, is_number, is_space, is_apostrophe, is_sign, is_base, is_base_digit, is_base_more}
use Rattle.cov_lexer.specs.Forms.{Part, One, Maybe, Many, Passes, HasForm, decimal, based, sized, digits as digits_in, Item, Spells}
use Rattle.cov_lexer.specs.Literals.{base_of, value_of, decimal_literal, meaning, spaces, marks, IsSize, IsBased, IsDecimal, HasParts, IsLiteral, IsNumber, run_to, are_digits, lettered, based_literal, literal_of}
use Rattle.cov_lexer.specs.Reading.{Runs}
use Rattle.cov_lexer.proofs.Fitting.{inside, run_fits}
use Rattle.cov_lexer.proofs.Found.{base_is, base_passes, digit_passes, sign_passes, no_digit_space, no_base_sign, number_no_space, number_no_apostrophe, digit_no_apostrophe}

-- runs

pub runs : (p : ℕ → Bool) (text : List ℕ) (i : ℕ) → i ≤ length text → Runs p text i (run_to p text i)
runs p text i l = record {
  from = omega arith;
  inside = (let a = prefix_len-le-length p (drop i text) in let b = length-drop i text in omega arith);
  all = λ q f t.
      let k : q - i < prefix_len p (drop i text) = omega arith in
      let e : i + (q - i) ≡ q = omega arith in
      subst (λ x. p (get_or text x 0) ≡ true) e (subst (λ x. p x ≡ true) (get_or-drop i text (q - i) 0) (prefix_len_passes p (drop i text) (q - i) 0 k));
  stops = λ t.
      let b = length-drop i text in
      subst (λ x. p x ≡ false) (get_or-drop i text (prefix_len p (drop i text)) 0) (prefix_len_stops p (drop i text) 0 (omega arith));
}

-- there is one run
pub run_is : (p : ℕ → Bool) (text : List ℕ) (i j : ℕ) → Runs p text i j → run_to p text i ≡ j
run_is p text i j r =
    let a = r.from in let b = r.inside in
    let s = runs p text i (omega arith) in
    elim (cases_order (run_to p text i) j) [
      | inl e ↦ e
      | inr o ↦ elim o [
        | inl l ↦ absurd (let x = s.stops (omega arith) in let y = r.all (run_to p text i) s.from l in cc)
        | inr l ↦ absurd (let v = s.inside in let x = r.stops (omega arith) in let y = s.all j r.from l in cc)
      ]
    ]

fits_run : (p : ℕ → Bool) (text : List ℕ) (i j : ℕ) → HasForm text (Many p ∷ []) i j → (j < length text → p (get_or text j 0) ≡ false) → Runs p text i j
fits_run p text i j f h = subst (λ q. Runs p text i q) f.4 (record { from = f.1; inside = f.2; all = f.3; stops = subst (λ q. q < length text → p (get_or text q 0) ≡ false) (sym f.4) h })

not_true : (x : Bool) → (x ≡ true → ⊥) → x ≡ false
not_true true h = absurd (h refl)
not_true false h = refl

-- a decimal literal

pub decimal_means : (text : List ℕ) → IsDecimal text → literal_of text ≡ decimal_literal (value_of bases.Decimal text)
unfolding literal_of
decimal_means text f =
    let e : run_to is_number text 1 ≡ length text = run_is is_number text 1 (length text) (fits_run is_number text 1 (length text) f.1 (λ l. absurd (omega arith))) in
    let t : nat_eq (length text) (length text) ≡ true = eq-eqb (length text) (length text) refl in
    rw (f.0.1, e, t) refl

-- a based literal

digits_mean : (text size : List ℕ) (signed : Bool) (base : Base) (l f : ℕ) → HasForm text (One (is_base base) ∷ spaces) l f → HasForm text (digits_in base) f (length text) →
    lettered text size signed l ≡ meaning size signed base (drop f text)
digits_mean text size signed base l f b d =
    let o : base_of (get_or text l 0) ≡ Some base = base_is base _ b.0.1 in
    let s : is_space (get_or text f 0) ≡ false = not_true _ (λ h. let g = eqb-true (get_or text f 0) 32 h in let k = subst (λ c. is_base_digit base c ≡ true) g d.0.1 in let z = no_digit_space base in absurd (cc)) in
    let e : run_to is_space text (l + 1) ≡ f = run_is is_space text (l + 1) f (fits_run is_space text (l + 1) f b.1 (λ _. s)) in
    let m : run_to (is_base_more base) text (f + 1) ≡ length text = run_is (is_base_more base) text (f + 1) (length text) (fits_run (is_base_more base) text (f + 1) (length text) d.1 (λ h. absurd (omega arith))) in
    let t : nat_eq (length text) (length text) ≡ true = eq-eqb (length text) (length text) refl in
    rw (o, e, d.0.1, m, t) refl

marks_mean : (text size : List ℕ) (signed : Bool) (base : Base) (a l f : ℕ) → HasForm text (marks signed) a l → HasForm text (One (is_base base) ∷ spaces) l f → HasForm text (digits_in base) f (length text) →
    based_literal text size a ≡ meaning size signed base (drop f text)
marks_mean text size true base a l f m b d =
    let e : l ≡ a + 2 = (let x = m.1.1 in omega arith) in
    rw (m.0.1, m.1.0.1) (digits_mean text size true base (a + 2) f (subst (λ q. HasForm text (One (is_base base) ∷ spaces) q f) e b) d)
marks_mean text size false base a l f m b d =
    let e : l ≡ a + 1 = sym m.1 in
    let b1 = subst (λ q. HasForm text (One (is_base base) ∷ spaces) q f) e b in
    let s : is_sign (get_or text (a + 1) 0) ≡ false = not_true _ (λ h. no_base_sign base _ h b1.0.1) in
    rw (m.0.1, s) (digits_mean text size false base (a + 1) f b1 d)

mark_passes : (text : List ℕ) (signed : Bool) (a l : ℕ) → HasForm text (marks signed) a l → Passes is_apostrophe text a
mark_passes text true a l m = m.0
mark_passes text false a l m = m.0

-- a byte that is a space or the apostrophe ends the size
size_stops : (text : List ℕ) (n a : ℕ) → HasForm text spaces n a → Passes is_apostrophe text a → is_number (get_or text n 0) ≡ false
size_stops text n a s p = not_true _ (λ h. elim (cases_lt n a) [
  | inl l ↦ (let e = s.4 in number_no_space _ h (s.3 n (omega arith) (omega arith)))
  | inr l ↦ (let x = s.1 in let y = s.4 in let e : a ≡ n = omega arith in number_no_apostrophe _ h (subst (λ q. is_apostrophe (get_or text q 0) ≡ true) e p.1))
])

size_means : (text size : List ℕ) (a : ℕ) (m : Option Literal) → IsSize text size a → Passes is_apostrophe text a → based_literal text size a ≡ m → literal_of text ≡ m
unfolding literal_of
size_means text size a m s p h = elim s [
  | inl z ↦ (let d : is_digit (get_or text 0 0) ≡ false = not_true _ (λ k. digit_no_apostrophe _ k (subst (λ q. is_apostrophe (get_or text q 0) ≡ true) z.1 p.1)) in
      rw d (subst (λ q. based_literal text q 0 ≡ m) z.0 (subst (λ q. based_literal text size q ≡ m) z.1 h)))
  | inr z ↦ (
      let n = z.0 in
      let e : run_to is_number text 1 ≡ n = run_is is_number text 1 n (fits_run is_number text 1 n z.1.1 (λ _. size_stops text n a z.2 p)) in
      let l : n ≢ length text = λ k. absurd (let x = z.2.1 in let y = z.2.4 in let w = p.0 in omega arith) in
      let t : nat_eq n (length text) ≡ false = ne_eqb n (length text) l in
      let stop : is_space (get_or text a 0) ≡ false = not_true _ (λ k. let x = eqb-true (get_or text a 0) 32 k in let y = eqb-true (get_or text a 0) 39 p.1 in absurd (omega (arith, x, y))) in
      let g : run_to is_space text n ≡ a = run_is is_space text n a (fits_run is_space text n a z.2 (λ _. stop)) in
      rw (z.1.0.1, e, t, g) (subst (λ q. based_literal text q a ≡ m) z.3 h))
]

pub based_means : (text size : List ℕ) (signed : Bool) (base : Base) (digits : List ℕ) → IsBased text size signed base digits → literal_of text ≡ meaning size signed base digits
based_means text size signed base digits b =
    size_means text size b.apostrophe (meaning size signed base digits) b.sized (mark_passes text signed b.apostrophe b.letter b.marked)
    (subst (λ ds. based_literal text size b.apostrophe ≡ meaning size signed base ds) (sym b.are) (marks_mean text size signed base b.apostrophe b.letter b.first b.marked b.in_base b.spelled))

-- a text that is no literal

option_cases : {A : Type 0} (o : Option A) → (o ≡ None) ⊎ ((x : A) × (o ≡ Some x))
option_cases None = inl refl
option_cases (Some x) = inr (x, refl)

abbrev Lettered : List ℕ → ℕ → Type 0
Lettered text l = (base : Base) × (f : ℕ) × HasForm text (One (is_base base) ∷ spaces) l f × HasForm text (digits_in base) f (length text)

run_form : (p : ℕ → Bool) (text : List ℕ) (i : ℕ) → i ≤ length text → HasForm text (Many p ∷ []) i (run_to p text i)
run_form p text i l = run_fits p [] text i (run_to p text i) (run_to p text i) (runs p text i l) refl

letter_or_none : (text size : List ℕ) (signed : Bool) (l : ℕ) → (lettered text size signed l ≡ None) ⊎ Lettered text l
letter_or_none text size signed l = elim (option_cases (base_of (get_or text l 0))) [
  | inl e ↦ inl (rw e refl)
  | inr b ↦ elim (cases_Bool (are_digits b.0 text (run_to is_space text (l + 1)))) [
    | inr n ↦ inl (rw (b.1, n) refl)
    | inl y ↦ (
        let f = run_to is_space text (l + 1) in
        let t = and_parts (is_base_digit b.0 (get_or text f 0)) (nat_eq (run_to (is_base_more b.0) text (f + 1)) (length text)) y in
        let p = base_passes text l b.0 b.1 in
        let d = digit_passes text f b.0 t.0 in
        let x = p.0 in let w = d.0 in
        let e : run_to (is_base_more b.0) text (f + 1) ≡ length text = eqb-true _ _ t.1 in
        inr (b.0, f, (p, run_form is_space text (l + 1) (omega arith)), (d, subst (λ q. HasForm text (Many (is_base_more b.0) ∷ []) (f + 1) q) e (run_form (is_base_more b.0) text (f + 1) (omega arith)))))
  ]
]

based_or_none : (text size : List ℕ) (a : ℕ) → IsSize text size a → (IsLiteral text → ⊥) → based_literal text size a ≡ None
based_or_none text size a s none = elim (cases_Bool (is_apostrophe (get_or text a 0))) [
  | inr n ↦ rw n refl
  | inl y ↦ (
      let p = inside is_apostrophe text a refl y in
      elim (cases_Bool (is_sign (get_or text (a + 1) 0))) [
        | inl g ↦ rw (y, g) (elim (letter_or_none text size true (a + 2)) [
          | inl e ↦ e
          | inr l ↦ absurd (none (inr (
            size,
            true,
            l.0,
            drop l.1 text,
            record {
              apostrophe = a;
              letter = a + 2;
              first = l.1;
              sized = s;
              marked = (p, (sign_passes text (a + 1) g, (let e : a + 1 + 1 ≡ a + 2 = omega arith in e)));
              in_base = l.2;
              spelled = l.3;
              are = refl;
            },
          )))
        ])
        | inr g ↦ rw (y, g) (elim (letter_or_none text size false (a + 1)) [
          | inl e ↦ e
          | inr l ↦ absurd (none (inr (
            size,
            false,
            l.0,
            drop l.1 text,
            record {
              apostrophe = a;
              letter = a + 1;
              first = l.1;
              sized = s;
              marked = (p, refl);
              in_base = l.2;
              spelled = l.3;
              are = refl;
            },
          )))
        ])
      ])
]

pub none_means : (text : List ℕ) → (IsLiteral text → ⊥) → literal_of text ≡ None
unfolding literal_of
none_means text none = elim (cases_Bool (is_digit (get_or text 0 0))) [
  | inr n ↦ rw n (based_or_none text [] 0 (inl (refl, refl)) none)
  | inl y ↦ (
      let d = inside is_digit text 0 refl y in
      let x = d.0 in
      let n = run_to is_number text 1 in
      let f : HasForm text decimal 0 n = (d, run_form is_number text 1 (omega arith)) in
      elim (cases_Bool (nat_eq n (length text))) [
        | inl e ↦ absurd (none (inl (subst (λ q. HasForm text decimal 0 q) (eqb-true n (length text) e) f)))
        | inr e ↦ rw (y, e) (
            let u = (runs is_number text 1 (omega arith)).inside in
            based_or_none text (take n text) (run_to is_space text n) (inr (n, f, run_form is_space text n u, refl)) none)
      ])
]

-- what the code reads

lettered_is : (text size : List ℕ) (signed : Bool) (l f : ℕ) (base : Base) → base_of (get_or text l 0) ≡ Some base → Runs is_space text (l + 1) f →
    lettered text size signed l ≡ cond (are_digits base text f) (meaning size signed base (drop f text)) None
lettered_is text size signed l f base h r = let e = run_is is_space text (l + 1) f r in rw (h, e) refl

pub no_digit : (text size : List ℕ) (signed : Bool) (l f : ℕ) (base : Base) → base_of (get_or text l 0) ≡ Some base → Runs is_space text (l + 1) f →
    is_base_digit base (get_or text f 0) ≡ false → lettered text size signed l ≡ None
no_digit text size signed l f base h r d = lettered_is text size signed l f base h r ∙ rw d refl

pub more_behind : (text size : List ℕ) (signed : Bool) (l f j : ℕ) (base : Base) → base_of (get_or text l 0) ≡ Some base → Runs is_space text (l + 1) f →
    is_base_digit base (get_or text f 0) ≡ true → Runs (is_base_more base) text (f + 1) j → j ≢ length text → lettered text size signed l ≡ None
more_behind text size signed l f j base h r d m n =
    let e = run_is (is_base_more base) text (f + 1) j m in let t : nat_eq j (length text) ≡ false = ne_eqb j (length text) n in
    lettered_is text size signed l f base h r ∙ rw (d, e, t) refl

pub all_digits : (text size : List ℕ) (signed : Bool) (l f j : ℕ) (base : Base) → base_of (get_or text l 0) ≡ Some base → Runs is_space text (l + 1) f →
    is_base_digit base (get_or text f 0) ≡ true → Runs (is_base_more base) text (f + 1) j → j ≡ length text → lettered text size signed l ≡ meaning size signed base (drop f text)
all_digits text size signed l f j base h r d m n =
    let e = run_is (is_base_more base) text (f + 1) j m in let t : nat_eq j (length text) ≡ true = eq-eqb j (length text) n in
    lettered_is text size signed l f base h r ∙ rw (d, e, t) refl

pub unnumbered : (text : List ℕ) → is_digit (get_or text 0 0) ≡ false → literal_of text ≡ based_literal text [] 0
unfolding literal_of
unnumbered text h = rw h refl

pub all_numbered : (text : List ℕ) (n : ℕ) → is_digit (get_or text 0 0) ≡ true → Runs is_number text 1 n → n ≡ length text → literal_of text ≡ decimal_literal (value_of bases.Decimal text)
unfolding literal_of
all_numbered text n h r e = let a = run_is is_number text 1 n r in let t : nat_eq n (length text) ≡ true = eq-eqb n (length text) e in rw (h, a, t) refl

pub sized_from : (text : List ℕ) (n a : ℕ) → is_digit (get_or text 0 0) ≡ true → Runs is_number text 1 n → Runs is_space text n a → n ≢ length text → literal_of text ≡ based_literal text (take n text) a
unfolding literal_of
sized_from text n a h r s ne = let x = run_is is_number text 1 n r in let y = run_is is_space text n a s in let t : nat_eq n (length text) ≡ false = ne_eqb n (length text) ne in rw (h, x, t, y) refl

-- what the lexer finds as a literal is one

fits_from : (ps : List Part) (text : List ℕ) (i j : ℕ) → HasForm text ps i j → i ≤ j
fits_from [] text i j f = omega (arith, f)
fits_from (One p ∷ ps) text i j f = let a = fits_from ps text (i + 1) j f.1 in omega arith
fits_from (Maybe p ∷ ps) text i j f = elim f [ inl g ↦ fits_from ps text i j g | inr g ↦ (let a = fits_from ps text (i + 1) j g.1 in omega arith) ]
fits_from (Many p ∷ ps) text i j f = let a = fits_from ps text f.0 j f.4 in let b = f.1 in omega arith

fits_inside : (ps : List Part) (text : List ℕ) (i j : ℕ) → i ≤ length text → HasForm text ps i j → j ≤ length text
fits_inside [] text i j l f = omega (arith, f)
fits_inside (One p ∷ ps) text i j l f = let a = f.0.0 in fits_inside ps text (i + 1) j (omega arith) f.1
fits_inside (Maybe p ∷ ps) text i j l f = elim f [ inl g ↦ fits_inside ps text i j l g | inr g ↦ (let a = g.0.0 in fits_inside ps text (i + 1) j (omega arith) g.1) ]
fits_inside (Many p ∷ ps) text i j l f = fits_inside ps text f.0 j f.2 f.4

part_length : (text : List ℕ) (i n : ℕ) → i ≤ n → n ≤ length text → length (slice_range text i n) ≡ n - i
part_length text i n l u = let a = length-drop i text in let b = length-take (n - i) (drop i text) in omega arith

part_byte : (text : List ℕ) (i n q : ℕ) → i + q < n → get_or (slice_range text i n) q 0 ≡ get_or text (i + q) 0
part_byte text i n q l = get_or-take (n - i) (drop i text) q 0 (omega arith) ∙ get_or-drop i text q 0

part_passes : (p : ℕ → Bool) (text : List ℕ) (i n q : ℕ) → n ≤ length text → i + q < n → p (get_or text (i + q) 0) ≡ true → Passes p (slice_range text i n) q
part_passes p text i n q u l h = ((let e = part_length text i n (omega arith) u in omega arith), subst (λ x. p x ≡ true) (sym (part_byte text i n q l)) h)

-- what fits in a text fits in a part of it
part_fits : (ps : List Part) (text : List ℕ) (i n a b : ℕ) → n ≤ length text → i + b ≤ n → HasForm text ps (i + a) (i + b) → HasForm (slice_range text i n) ps a b
part_fits [] text i n a b u l f = omega (arith, f)
part_fits (One p ∷ ps) text i n a b u l f =
    let e : i + a + 1 ≡ i + (a + 1) = omega arith in
    let k = fits_from ps text (i + a + 1) (i + b) f.1 in
    (part_passes p text i n a u (omega arith) f.0.1, part_fits ps text i n (a + 1) b u l (subst (λ q. HasForm text ps q (i + b)) e f.1))
part_fits (Maybe p ∷ ps) text i n a b u l f = elim f [
  | inl g ↦ inl (part_fits ps text i n a b u l g)
  | inr g ↦ (
      let e : i + a + 1 ≡ i + (a + 1) = omega arith in
      let k = fits_from ps text (i + a + 1) (i + b) g.1 in
      inr (part_passes p text i n a u (omega arith) g.0.1, part_fits ps text i n (a + 1) b u l (subst (λ q. HasForm text ps q (i + b)) e g.1)))
]
part_fits (Many p ∷ ps) text i n a b u l f =
    let k = fits_from ps text f.0 (i + b) f.4 in
    let h = f.1 in
    let e : f.0 ≡ i + (f.0 - i) = omega arith in (
      f.0 - i,
      omega arith,
      (let g = part_length text i n (omega arith) u in omega arith),
      (λ q x y. subst (λ c. p c ≡ true) (sym (part_byte text i n q (omega arith))) (f.3 (i + q) (omega arith) (omega arith))),
      part_fits ps text i n (f.0 - i) b u l (subst (λ q. HasForm text ps q (i + b)) e f.4),
    )

piece_fits : (ps : List Part) (text : List ℕ) (i j : ℕ) → i < length text → HasForm text ps i j → HasForm (slice_range text i j) ps 0 (length (slice_range text i j))
piece_fits ps text i j l f =
    let a = fits_from ps text i j f in
    let u = fits_inside ps text i j (omega arith) f in
    let e : i ≡ i + 0 = omega arith in
    let g : j ≡ i + (j - i) = omega arith in
    let k : i + (j - i) ≤ j = omega arith in
    subst (λ q. HasForm (slice_range text i j) ps 0 q) (sym (part_length text i j a u))
    (part_fits ps text i j 0 (j - i) u k (subst (λ q. HasForm text ps q (i + (j - i))) e (subst (λ q. HasForm text ps i q) g f)))

based_is : (text size : List ℕ) (base : Base) (a : ℕ) → IsSize text size a → HasForm text (based base) a (length text) → HasParts text
based_is text size base a s f = elim f.1 [
  | inl g ↦ (
    size,
    false,
    base,
    drop g.1.0 text,
    record {
      apostrophe = a;
      letter = a + 1;
      first = g.1.0;
      sized = s;
      marked = (f.0, refl);
      in_base = (g.0, (g.1.0, g.1.1, g.1.2, g.1.3, refl));
      spelled = g.1.4;
      are = refl;
    },
  )
  | inr h ↦ (let g = h.1 in (
    size,
    true,
    base,
    drop g.1.0 text,
    record {
      apostrophe = a;
      letter = a + 1 + 1;
      first = g.1.0;
      sized = s;
      marked = (f.0, (h.0, refl));
      in_base = (g.0, (g.1.0, g.1.1, g.1.2, g.1.3, refl));
      spelled = g.1.4;
      are = refl;
    },
  ))
]

sized_is : (text : List ℕ) (base : Base) → HasForm text (sized base) 0 (length text) → HasParts text
sized_is text base f =
    let n = f.1 in
    let m = n.4 in
    based_is text (take n.0 text) base m.0 (inr (n.0, (f.0, (n.0, n.1, n.2, n.3, refl)), (m.0, m.1, m.2, m.3, refl), refl)) m.4

-- a token of either kind is such a literal
pub decimal_found : (whole : List ℕ) (i j : ℕ) → Spells whole i (Item Number) j → IsDecimal (slice_range whole i j)
decimal_found whole i j d = piece_fits decimal whole i j d.0.0 d

pub based_found : (whole : List ℕ) (i j : ℕ) → Spells whole i (Item Based) j → HasParts (slice_range whole i j)
based_found whole i j b = elim b.1 [
  | inl f ↦ based_is (slice_range whole i j) [] b.0 0 (inl (refl, refl)) (piece_fits (based b.0) whole i j f.0.0 f)
  | inr f ↦ sized_is (slice_range whole i j) b.0 (piece_fits (sized b.0) whole i j f.0.0 f)
]

pub found_is : (whole text : List ℕ) (i j : ℕ) → IsNumber whole i j → text ≡ slice_range whole i j → IsLiteral text
found_is whole text i j s e = subst (λ q. IsLiteral q) (sym e) (elim s [
  | inl d ↦ inl (decimal_found whole i j d)
  | inr b ↦ inr (based_found whole i j b)
])
