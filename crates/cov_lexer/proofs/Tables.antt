-- The table of words and operators, and what stands at a place.
use Rattle.std.proofs.Common.{◌≡◌, ◌≢◌, ℕ, ◌+◌, ◌-◌, ◌<◌, ◌≤◌, List, [], ◌∷◌, Bool, true, false, ◌&&◌, ◌||◌, ◌⊎◌, inl, inr, cond, not, nat_lt, eqb, Option, Some, None, is_some, length, take, drop, get_or, slice_range, refl, sym, ◌∙◌, ap, subst, arith, drop-cons, length-take, length-drop}
use lib.Pointwise.{pointwise}
use Rattle.std.proofs.lemmas.Bool.{cases_Bool, eqb-true, ltb-true, and_parts, or_cases, and_left}
use Rattle.std.proofs.lemmas.Grind.{common_steps}
use Rattle.cov_lexer.specs.declared.kind.Kind.{Kind}
use Rattle.cov_lexer.specs.declared.kind.Kind.TheVariants.{NotSupported}
use Rattle.cov_lexer.specs.declared.token.TokenKind.{TokenKind}
use Rattle.cov_lexer.specs.Spellings.{Spelling, words, operators, kind_among, is_keyword, kind_of, or_other, begins_with, starting}
use Rattle.cov_lexer.specs.Operators.{sort_of, stands, IsOneAt, first_standing}
use Rattle.cov_lexer.specs.Reading.{IsOperator}

abbrev pub among : ℕ → List ℕ → Bool
among b [] = false
among b (l ∷ ls) = cond (eqb l b) true (among b ls)

abbrev pub Outside : ℕ → List ℕ → Type 0
Outside b [] = Unit {0}
Outside b (l ∷ ls) = (b ≢ l) × Outside b ls

pub outside_false : (b : ℕ) (ls : List ℕ) → Outside b ls → among b ls ≡ false
outside_false b [] h = refl
outside_false b (l ∷ ls) h = elim (cases_Bool (eqb l b)) [
  | inl e ↦ absurd (h.0 (sym (eqb-true l b e)))
  | inr e ↦ rw e (outside_false b ls h.1)
]

among_left : (x b : ℕ) (letters : List ℕ) → among x letters ≡ true → among b letters ≡ false → eqb x b ≡ false
among_left x b letters h k = elim (cases_Bool (eqb x b)) [
  | inl e ↦ absurd (let s = eqb-true x b e in let g = subst (λ q. among q letters ≡ true) s h in cc)
  | inr e ↦ e
]

pub cond_true : (c t : Bool) → cond c t false ≡ true → (c ≡ true) × (t ≡ true)
cond_true true t h = (refl, h)
cond_true false t h = absurd (cc)

abbrev pub first_among : List ℕ → List ℕ → Bool
first_among letters [] = false
first_among letters (x ∷ xs) = among x letters

abbrev pub all_among : List ℕ → List Spelling → Bool
all_among letters [] = true
all_among letters (s ∷ ss) = cond (first_among letters s.text) (all_among letters ss) false

not_beginning : (b : ℕ) (letters bytes : List ℕ) → first_among letters bytes ≡ true → among b letters ≡ false → begins_with b bytes ≡ false
not_beginning b letters [] h k = absurd (cc)
not_beginning b letters (x ∷ xs) h k = among_left x b letters h k

-- none begins with a byte that is none of these
pub none_starting : (b : ℕ) (letters : List ℕ) (ss : List Spelling) → all_among letters ss ≡ true → among b letters ≡ false → starting b ss ≡ []
none_starting b letters [] h k = refl
none_starting b letters (s ∷ ss) h k =
    let p = cond_true (first_among letters s.text) (all_among letters ss) h in
    rw (not_beginning b letters s.text p.0 k) (none_starting b letters ss p.1 k)

-- the kind of a text that begins with b is that among those that begin with b
other_first : (b : ℕ) (rest w : List ℕ) → begins_with b w ≡ false → pointwise eqb w (b ∷ rest) ≡ false
other_first b rest [] h = absurd (cc)
other_first b rest (x ∷ xs) h = and_left (eqb x b) (pointwise eqb xs rest) h

one_step : (text : List ℕ) (s : Spelling) (found : List Spelling) (more : Option Kind) (t : Bool) → (t ≡ false → pointwise eqb s.text text ≡ false) → more ≡ kind_among text found →
    cond (pointwise eqb s.text text) (Some s.kind) more ≡ kind_among text (cond t (s ∷ found) found)
one_step text s found more true k h = ap (λ r. cond (pointwise eqb s.text text) (Some s.kind) r) h
one_step text s found more false k h = rw (k refl) h

by_first : (b : ℕ) (rest : List ℕ) (ss : List Spelling) → kind_among (b ∷ rest) ss ≡ kind_among (b ∷ rest) (starting b ss)
by_first b rest [] = refl
by_first b rest (s ∷ ss) = one_step (b ∷ rest) s (starting b ss) _ (begins_with b s.text) (other_first b rest s.text) (by_first b rest ss)

pub kind_by_first : (text : List ℕ) → 0 < length text → kind_among text (starting (get_or text 0 0) words) ≡ kind_among text words
kind_by_first [] l = absurd (omega arith)
kind_by_first (x ∷ xs) l = sym (by_first x xs words)

pub no_kind : (text : List ℕ) → length text ≡ 0 → kind_among text words ≡ None
unfolding words
no_kind [] h = refl
no_kind (x ∷ xs) h = absurd (omega arith)

-- a text with a kind among the words is a keyword
pub keyword_is : (text : List ℕ) (k : Kind) → kind_among text words ≡ Some k → is_keyword text ≡ true
unfolding is_keyword
keyword_is text k h = ap is_some h

pub keyword_not : (text : List ℕ) → kind_among text words ≡ None → is_keyword text ≡ false
unfolding is_keyword
keyword_not text h = ap is_some h

-- what stands

pub first_byte : (text : List ℕ) (i b : ℕ) (bs : List ℕ) → i < length text → stands text i (b ∷ bs) ≡ true → get_or text i 0 ≡ b
unfolding stands
first_byte text i b bs l h = sym (eqb-true b (get_or text i 0) (and_parts (eqb b (get_or text i 0)) _ (rw (drop-cons text i 0) at h)).0)

pub not_standing : (text : List ℕ) (i b : ℕ) (bs : List ℕ) → i < length text → eqb b (get_or text i 0) ≡ false → stands text i (b ∷ bs) ≡ false
not_standing text i b bs l e = elim (cases_Bool (stands text i (b ∷ bs))) [
  | inl s ↦ absurd (let f = first_byte text i b bs l s in let g = subst (λ q. eqb b q ≡ false) f e in absurd (let r : eqb b b ≡ true = grind (arith, common_steps) in cc))
  | inr s ↦ s
]

pointwise_equal : (xs ys : List ℕ) → pointwise eqb xs ys ≡ true → xs ≡ ys
pointwise_equal [] [] h = refl
pointwise_equal [] (y ∷ ys) h = absurd (cc)
pointwise_equal (x ∷ xs) [] h = absurd (cc)
pointwise_equal (x ∷ xs) (y ∷ ys) h =
    let p = and_parts (eqb x y) (pointwise eqb xs ys) h in
    let a = eqb-true x y p.0 in
    let b = pointwise_equal xs ys p.1 in
    cc

-- what stands ends inside the text
pub stands_inside : (text : List ℕ) (i : ℕ) (bytes : List ℕ) → i ≤ length text → stands text i bytes ≡ true → i + length bytes ≤ length text
unfolding stands
stands_inside text i bytes l h =
    let e = ap length (pointwise_equal bytes (take (length bytes) (drop i text)) h) in
    let f = e ∙ length-take (length bytes) (drop i text) in
    omega (arith, f, length-drop i text)

same_length : (text : List ℕ) (i : ℕ) (xs ys : List ℕ) → length xs ≡ length ys → stands text i xs ≡ true → stands text i ys ≡ true → xs ≡ ys
unfolding stands
same_length text i xs ys e h k =
    pointwise_equal xs _ h ∙ (ap (λ n. take n (drop i text)) e ∙ sym (pointwise_equal ys _ k))

same_eqb : (x y : ℕ) → eqb y x ≡ eqb x y
same_eqb x y = elim (cases_Bool (eqb x y)) [
  | inl e ↦ (let s = eqb-true x y e in subst (λ (q : ℕ). eqb q x ≡ eqb x q) s refl)
  | inr e ↦ elim (cases_Bool (eqb y x)) [ inl f ↦ absurd (let s = eqb-true y x f in let g = subst (λ (q : ℕ). eqb x q ≡ false) s e in absurd (let r : eqb x x ≡ true = grind (arith, common_steps) in cc)) | inr f ↦ f ∙ sym e ]
]

-- one byte alone
pub byte_stands : (text : List ℕ) (i : ℕ) (bytes : List ℕ) → i < length text → length bytes ≡ 1 → eqb (get_or text i 0) (get_or bytes 0 0) ≡ stands text i bytes
unfolding stands
byte_stands text i [] l h = absurd (omega arith)
byte_stands text i (x ∷ []) l h = rw (drop-cons text i 0 l) (rw (same_eqb x (get_or text i 0)) (and_true (eqb x (get_or text i 0))))
  where
    and_true : (b : Bool) → b ≡ (b && true)
    and_true true = refl
    and_true false = refl
byte_stands text i (x ∷ y ∷ more) l h = absurd (omega arith)

-- operators

other_standing : (text : List ℕ) (i : ℕ) (bytes : List ℕ) → i < length text → begins_with (get_or text i 0) bytes ≡ false → stands text i bytes ≡ false
other_standing text i [] l h = absurd (cc)
other_standing text i (x ∷ xs) l h = not_standing text i x xs l h

standing_step : (text : List ℕ) (i : ℕ) (s : Spelling) (found : List Spelling) (more : Option Spelling) (t : Bool) → (t ≡ false → stands text i s.text ≡ false) →
    first_standing text i found ≡ more → first_standing text i (cond t (s ∷ found) found) ≡ cond (stands text i s.text) (Some s) more
standing_step text i s found more true k h = ap (λ r. cond (stands text i s.text) (Some s) r) h
standing_step text i s found more false k h = rw (k refl) h

pub standing_by_first : (text : List ℕ) (i : ℕ) (ss : List Spelling) → i < length text → first_standing text i (starting (get_or text i 0) ss) ≡ first_standing text i ss
standing_by_first text i [] l = refl
standing_by_first text i (s ∷ ss) l =
    standing_step text i s (starting (get_or text i 0) ss) _ (begins_with (get_or text i 0) s.text) (other_standing text i s.text l) (standing_by_first text i ss l)

pub first_stands : (text : List ℕ) (i : ℕ) (s : Spelling) (ss : List Spelling) → first_standing text i ss ≡ Some s → stands text i s.text ≡ true
first_stands text i s [] h = absurd (cc)
first_stands text i s (x ∷ ss) h = elim (cases_Bool (stands text i x.text)) [
  | inl e ↦ (let g = rw e at h in let same : x ≡ s = cc in subst (λ y. stands text i y.text ≡ true) same e)
  | inr e ↦ first_stands text i s ss (rw e at h)
]

pub first_is_one : (text : List ℕ) (i : ℕ) (s : Spelling) (ss : List Spelling) → first_standing text i ss ≡ Some s → IsOneAt text i (sort_of s.kind) ss (i + length s.text)
unfolding IsOneAt
first_is_one text i s [] h = absurd (cc)
first_is_one text i s (x ∷ ss) h = elim (cases_Bool (stands text i x.text)) [
  | inl e ↦ (let g = rw e at h in let same : x ≡ s = cc in subst (λ y. IsOneAt text i (sort_of y.kind) (x ∷ ss) (i + length y.text)) same (inl (refl, e, refl)))
  | inr e ↦ inr (first_is_one text i s ss (rw e at h))
]

pub none_is_none : (text : List ℕ) (i : ℕ) (ss : List Spelling) → first_standing text i ss ≡ None → (k : TokenKind) (n : ℕ) → IsOneAt text i k ss n → ⊥
unfolding IsOneAt
none_is_none text i [] h k n s = s
none_is_none text i (x ∷ ss) h k n s = elim (cases_Bool (stands text i x.text)) [
  | inl e ↦ absurd (let g = rw e at h in cc)
  | inr e ↦ elim s [
    | inl p ↦ absurd (let q = p.1 in cc)
    | inr p ↦ none_is_none text i ss (rw e at h) k n p
  ]
]

-- y is shorter than x, or of its length and another
abbrev pub comes_behind : Spelling → Spelling → Bool
comes_behind x y = nat_lt (length y.text) (length x.text) || (eqb (length y.text) (length x.text) && not (pointwise eqb y.text x.text))

abbrev pub all_behind : Spelling → List Spelling → Bool
all_behind x [] = true
all_behind x (y ∷ ys) = comes_behind x y && all_behind x ys

abbrev pub in_order : List Spelling → Bool
in_order [] = true
in_order (x ∷ xs) = all_behind x xs && in_order xs

pointwise_same : (xs : List ℕ) → pointwise eqb xs xs ≡ true
pointwise_same [] = refl
pointwise_same (x ∷ xs) = let r : eqb x x ≡ true = grind (arith, common_steps) in rw r (pointwise_same xs)

behind_shorter : (text : List ℕ) (i : ℕ) (x y : Spelling) → comes_behind x y ≡ true → stands text i x.text ≡ true → stands text i y.text ≡ true → length y.text < length x.text
behind_shorter text i x y h s t = elim (or_cases (nat_lt (length y.text) (length x.text)) _ h) [
  | inl e ↦ ltb-true _ _ e
  | inr e ↦ absurd (let p = and_parts (eqb (length y.text) (length x.text)) _ e in
      let same = same_length text i y.text x.text (eqb-true _ _ p.0) t s in
      let twice = subst (λ q. not (pointwise eqb y.text q) ≡ true) (sym same) p.1 in
      let r = pointwise_same y.text in
      let z = rw r at twice in cc)
]

all_shorter : (text : List ℕ) (i : ℕ) (x : Spelling) (ys : List Spelling) → all_behind x ys ≡ true → stands text i x.text ≡ true → (k : TokenKind) (n : ℕ) → IsOneAt text i k ys n → n < i + length x.text
unfolding IsOneAt
all_shorter text i x [] h s k n o = absurd o
all_shorter text i x (y ∷ ys) h s k n o =
    let p = and_parts (comes_behind x y) (all_behind x ys) h in
    elim o [
      | inl q ↦ (let b = behind_shorter text i x y p.0 s q.1 in omega (arith, q.2))
      | inr q ↦ all_shorter text i x ys p.1 s k n q
    ]

-- the first that stands is the longest
pub first_longest : (text : List ℕ) (i : ℕ) (s : Spelling) (ss : List Spelling) → in_order ss ≡ true → first_standing text i ss ≡ Some s →
    (k : TokenKind) (n : ℕ) → IsOneAt text i k ss n → (n < i + length s.text) ⊎ ((n ≡ i + length s.text) × (k ≡ sort_of s.kind))
unfolding IsOneAt
first_longest text i s [] o h k n m = absurd m
first_longest text i s (x ∷ ss) o h k n m =
    let p = and_parts (all_behind x ss) (in_order ss) o in
    elim (cases_Bool (stands text i x.text)) [
      | inl e ↦ (let g = rw e at h in let same : x ≡ s = cc in
          subst (λ y. (n < i + length y.text) ⊎ ((n ≡ i + length y.text) × (k ≡ sort_of y.kind))) same (elim m [
            | inl q ↦ inr (q.2, sym q.0)
            | inr q ↦ inl (all_shorter text i x ss p.0 e k n q)
          ]))
      | inr e ↦ elim m [
        | inl q ↦ absurd (let r = q.1 in cc)
        | inr q ↦ first_longest text i s ss p.1 (rw e at h) k n q
      ]
    ]

-- no text of the table is empty
abbrev pub all_longer : List Spelling → Bool
all_longer [] = true
all_longer (s ∷ ss) = nat_lt 0 (length s.text) && all_longer ss

first_longer : (text : List ℕ) (i : ℕ) (s : Spelling) (ss : List Spelling) → all_longer ss ≡ true → first_standing text i ss ≡ Some s → 0 < length s.text
first_longer text i s [] o h = absurd (cc)
first_longer text i s (x ∷ ss) o h =
    let p = and_parts (nat_lt 0 (length x.text)) (all_longer ss) o in
    elim (cases_Bool (stands text i x.text)) [
      | inl e ↦ (let g = rw e at h in let same : x ≡ s = cc in subst (λ y. 0 < length y.text) same (ltb-true _ _ p.0))
      | inr e ↦ first_longer text i s ss p.1 (rw e at h)
    ]

operators_in_order : in_order operators ≡ true
unfolding operators
operators_in_order = refl

operators_longer : all_longer operators ≡ true
unfolding operators
operators_longer = refl

-- what the table says of the text of each of these
abbrev pub AreKnown : List Spelling → List Spelling → Type 0
AreKnown all [] = Unit {0}
AreKnown all (s ∷ ss) = (kind_among s.text all ≡ Some s.kind) × AreKnown all ss

pub operators_known : AreKnown operators operators
unfolding operators
operators_known = (refl, (refl, (refl, (refl, (refl, (refl, (refl, (refl, (refl, (refl, (refl, (refl, (refl, (refl, (refl, (refl, (refl, (refl, (refl, (refl, (refl, (refl, (refl, (refl, (refl, (refl, (refl, (refl, (refl, (refl, (refl, (refl, (refl, (refl, (refl, (refl, (refl, (refl, (refl, (refl, (refl, (refl, (refl, (refl, (refl, (refl, (refl, (refl, (refl, (refl, (refl, (refl, (refl, tt)))))))))))))))))))))))))))))))))))))))))))))))))))))

first_known : (text : List ℕ) (i : ℕ) (s : Spelling) (all ss : List Spelling) → AreKnown all ss → first_standing text i ss ≡ Some s → kind_among s.text all ≡ Some s.kind
first_known text i s all [] k h = absurd (cc)
first_known text i s all (x ∷ ss) k h = elim (cases_Bool (stands text i x.text)) [
  | inl e ↦ (let g = rw e at h in let same : x ≡ s = cc in subst (λ (y : Spelling). kind_among y.text all ≡ Some y.kind) same k.0)
  | inr e ↦ first_known text i s all ss k.1 (rw e at h)
]

-- what stands is spelled so
pub stands_spelled : (text : List ℕ) (i : ℕ) (bytes : List ℕ) → stands text i bytes ≡ true → slice_range text i (i + length bytes) ≡ bytes
unfolding stands
stands_spelled text i bytes h =
    let e : i + length bytes - i ≡ length bytes = omega arith in
    rw e (sym (pointwise_equal bytes (take (length bytes) (drop i text)) h))

-- the kind of an operator's text is its own
kind_by_sort : (text : List ℕ) (k : Kind) → kind_among text operators ≡ Some k → k ≡ kind_of text (sort_of k)
kind_by_sort text NotSupported h = refl
kind_by_sort text k h = ap or_other (sym h)

pub longest_operator : (text : List ℕ) (i : ℕ) (s : Spelling) → i < length text → first_standing text i operators ≡ Some s → IsOperator text i s.kind (i + length s.text)
longest_operator text i s l h = record {
  longest = record {
    spells = first_is_one text i s operators h;
    longest = first_longest text i s operators operators_in_order h;
    more = (let m = first_longer text i s operators operators_longer h in omega arith);
    inside = stands_inside text i s.text (omega arith) (first_stands text i s operators h);
  };
  spelled = subst (λ (w : List ℕ). s.kind ≡ kind_of w (sort_of s.kind)) (sym (stands_spelled text i s.text (first_stands text i s operators h)))
      (kind_by_sort s.text s.kind (first_known text i s operators operators operators_known h));
}
