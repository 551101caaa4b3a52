-- Texts and tokens with more behind them.
use Rattle.std.proofs.Common.{◌≡◌, ℕ, zero, suc, ◌+◌, ◌-◌, ◌<◌, ◌≤◌, List, [], ◌∷◌, ◌++◌, Some, false, ◌⊎◌, inl, inr, length, take, drop, refl, sym, ◌∙◌, ap, subst, arith, append_assoc, append-nil, length-append, length-drop, slice_get, slice_range}
use Rattle.std.proofs.lemmas.List.{take-append-le}
use Rattle.std.proofs.lemmas.Bool.{cases_lt}
use Rattle.std.proofs.lemmas.Option.{slice_get_within}
use Rattle.cov_lexer.specs.declared.token.TokenKind.{TokenKind}
use Rattle.cov_lexer.specs.declared.kind.Kind.{Kind}
use Rattle.cov_grammar.specs.declared.marked.Marked.{Marked}
use Rattle.cov_lexer.specs.Kinds.{has}
use Rattle.cov_grammar.specs.Expressions.{spelled}
use Rattle.cov_grammar.specs.Bins.{squares}
use Rattle.cov_grammar.specs.Marking.{kind_of}
use Rattle.grammar_laws.specs.Continuations.{AreAlike, LieIn, IsPlain, ArePlainFrom}

pub get_left : {A : Type 0} (xs ys : List A) (i : ℕ) (x : A) → slice_get xs i ≡ Some x → slice_get (xs ++ ys) i ≡ Some x
get_left [] ys i x h = absurd (cc)
get_left (z ∷ xs) ys zero x h = h
get_left (z ∷ xs) ys (suc i) x h = get_left xs ys i x h

pub get_of_left : {A : Type 0} (xs ys : List A) (i : ℕ) → i < length xs → slice_get (xs ++ ys) i ≡ slice_get xs i
get_of_left [] ys i h = absurd (omega arith)
get_of_left (z ∷ xs) ys zero h = refl
get_of_left (z ∷ xs) ys (suc i) h = get_of_left xs ys i (omega arith)

pub get_seam : {A : Type 0} (xs : List A) (y : A) (ys : List A) (i : ℕ) → i ≡ length xs → slice_get (xs ++ y ∷ ys) i ≡ Some y
get_seam [] y ys zero h = refl
get_seam [] y ys (suc i) h = absurd (omega arith)
get_seam (z ∷ xs) y ys zero h = absurd (omega arith)
get_seam (z ∷ xs) y ys (suc i) h = get_seam xs y ys i (omega arith)

-- a place in a list with one more item is one of the list, or the last
pub get_split : {A : Type 0} (xs : List A) (y x : A) (i : ℕ) → slice_get (xs ++ y ∷ []) i ≡ Some x → (slice_get xs i ≡ Some x) ⊎ ((i ≡ length xs) × (x ≡ y))
get_split [] y x zero h = inr (refl, cc)
get_split [] y x (suc i) h = absurd (cc)
get_split (z ∷ xs) y x zero h = inl h
get_split (z ∷ xs) y x (suc i) h = elim (get_split xs y x i h) [ inl e ↦ inl e | inr e ↦ inr (omega (arith, e.0), e.1) ]

drop_left : {A : Type 0} (xs ys : List A) (a : ℕ) → a ≤ length xs → drop a (xs ++ ys) ≡ drop a xs ++ ys
drop_left xs ys zero h = refl
drop_left [] ys (suc a) h = absurd (omega arith)
drop_left (x ∷ xs) ys (suc a) h = drop_left xs ys a (omega arith)

pub range_left : (xs ys : List ℕ) (a n : ℕ) → a + n ≤ length xs → slice_range (xs ++ ys) a (a + n) ≡ slice_range xs a (a + n)
range_left xs ys a n h =
    let e = drop_left xs ys a (omega arith) in
    let l = length-drop a xs in
    let s : (a + n) - a ≡ n = omega arith in
    rw s (rw e (take-append-le n (drop a xs) ys (omega arith)))

drop_all : {A : Type 0} (xs ys : List A) → drop (length xs) (xs ++ ys) ≡ ys
drop_all [] ys = refl
drop_all (x ∷ xs) ys = drop_all xs ys

take_all : {A : Type 0} (xs : List A) → take (length xs) xs ≡ xs
take_all [] = refl
take_all (x ∷ xs) = ap (λ z. x ∷ z) (take_all xs)

pub range_right : (xs ys : List ℕ) → slice_range (xs ++ ys) (length xs) (length xs + length ys) ≡ ys
range_right xs ys =
    let s : (length xs + length ys) - length xs ≡ length ys = omega arith in
    rw s (rw (drop_all xs ys) (take_all ys))

-- the second text and tokens go on with the first
pub record Goes (text : List ℕ) (ts : List Marked) (other : List ℕ) (us : List Marked) : Type 0 where
  pub more : List ℕ
  pub behind : List Marked
  pub text_is : other ≡ text ++ more
  pub tokens_are : us ≡ ts ++ behind
  pub lie : LieIn other us
  pub plain : ArePlainFrom (length ts) other us

pub goes_nowhere : {text : List ℕ} {ts : List Marked} → LieIn text ts → Goes text ts text ts
goes_nowhere {text = text} {ts = ts} lie = record {
  more = [];
  behind = [];
  text_is = sym (append-nil text);
  tokens_are = sym (append-nil ts);
  lie = lie;
  plain = record { plain = λ i t l h. absurd (let w = slice_get_within ts i t h in omega arith) };
}

pub spelled_left : (text more : List ℕ) (t : Marked) → t.at + t.len ≤ length text → spelled (text ++ more) t ≡ spelled text t
spelled_left text more t h = range_left text more t.at t.len h

-- the tokens with more behind them begin with the same
pub alike_goes : {text : List ℕ} {ts : List Marked} {other : List ℕ} {us : List Marked} → LieIn text ts → Goes text ts other us → AreAlike (length ts) text ts other us
alike_goes {text = text} {ts = ts} {other = other} {us = us} lie g = record {
  like = λ i t l h. record {
    token = t;
    stands = subst (λ (z : List Marked). slice_get z i ≡ Some t) (sym g.tokens_are) (get_left ts g.behind i t h);
    kind = refl;
    spelling = subst (λ (z : List ℕ). spelled z t ≡ spelled text t) (sym g.text_is) (spelled_left text g.more t (lie.inside i t h));
  };
}

pub alike_self : (k : ℕ) (text : List ℕ) (ts : List Marked) → AreAlike k text ts text ts
alike_self k text ts = record { like = λ i t l h. record { token = t; stands = h; kind = refl; spelling = refl } }

plain_more : (text more : List ℕ) (t : Marked) → t.at + t.len ≤ length text → IsPlain text t → IsPlain (text ++ more) t
plain_more text more t l h = record {
  lexed = h.lexed;
  kind = subst (λ (z : List ℕ). kind_of z h.lexed ≡ t.kind) (sym (spelled_left text more t l)) h.kind;
  no_square = h.no_square;
}

pub goes_on : {text : List ℕ} {ts : List Marked} {mid : List ℕ} {ms : List Marked} {other : List ℕ} {us : List Marked} →
    Goes text ts mid ms → Goes mid ms other us → Goes text ts other us
goes_on {text = text} {ts = ts} {mid = mid} {ms = ms} {other = other} {us = us} g h = record {
  more = g.more ++ h.more;
  behind = g.behind ++ h.behind;
  text_is = h.text_is ∙ ap (λ (z : List ℕ). z ++ h.more) g.text_is ∙ append_assoc text g.more h.more;
  tokens_are = h.tokens_are ∙ ap (λ (z : List Marked). z ++ h.behind) g.tokens_are ∙ append_assoc ts g.behind h.behind;
  lie = h.lie;
  plain = record {
    plain = λ i t l e. elim (cases_lt i (length ms)) [
      | inl b ↦ (let at : slice_get ms i ≡ Some t =
          sym (get_of_left ms h.behind i b) ∙ subst (λ (z : List Marked). slice_get z i ≡ Some t) h.tokens_are e in
          subst (λ (z : List ℕ). IsPlain z t) (sym h.text_is) (plain_more mid h.more t (g.lie.inside i t at) (g.plain.plain i t l at)))
      | inr b ↦ h.plain.plain i t b e
    ];
  };
}

-- one more token, with this spelling, behind a newline
abbrev pub next_token : List ℕ → Kind → List ℕ → Marked
next_token text k w = record { kind = k; at = length text + 1; len = length w }

line_range : (text w : List ℕ) → slice_range (text ++ 10 ∷ w) (length text + 1) ((length text + 1) + length w) ≡ w
line_range text w =
    let e : length (text ++ 10 ∷ []) ≡ length text + 1 = length-append text (10 ∷ []) in
    let a : text ++ 10 ∷ w ≡ (text ++ 10 ∷ []) ++ w = sym (append_assoc text (10 ∷ []) w) in
    rw a (subst (λ n. slice_range ((text ++ 10 ∷ []) ++ w) n (n + length w) ≡ w) e (range_right (text ++ 10 ∷ []) w))

pub goes_one : {text : List ℕ} {ts : List Marked} (k : Kind) (w : List ℕ) (lexed : TokenKind) → kind_of w lexed ≡ k → has k squares ≡ false → LieIn text ts →
    Goes text ts (text ++ 10 ∷ w) (ts ++ next_token text k w ∷ [])
goes_one {text = text} {ts = ts} k w lexed is plain lie =
    let long : length (text ++ 10 ∷ w) ≡ length text + (length w + 1) = length-append text (10 ∷ w) ∙ omega arith in record {
      more = 10 ∷ w;
      behind = next_token text k w ∷ [];
      text_is = refl;
      tokens_are = refl;
      lie = record {
        inside = λ i t h. elim (get_split ts (next_token text k w) t i h) [
          | inl e ↦ (let l = lie.inside i t e in omega arith)
          | inr e ↦ subst (λ (z : Marked). z.at + z.len ≤ length (text ++ 10 ∷ w)) (sym e.1) (omega arith)
        ];
      };
      plain = record {
        plain = λ i t l h. elim (get_split ts (next_token text k w) t i h) [
          | inl e ↦ absurd (let b = slice_get_within ts i t e in omega arith)
          | inr e ↦ subst (λ (z : Marked). IsPlain (text ++ 10 ∷ w) z) (sym e.1) (record {
            lexed = lexed;
            kind = subst (λ (z : List ℕ). kind_of z lexed ≡ k) (sym (line_range text w)) is;
            no_square = plain;
          })
        ];
      };
    }

pub next_spelled : (text : List ℕ) (k : Kind) (w : List ℕ) → spelled (text ++ 10 ∷ w) (next_token text k w) ≡ w
next_spelled text k w = line_range text w
