-- The marks of first tokens, and of tokens behind them.
use Rattle.std.proofs.Common.{◌≡◌, ℕ, zero, suc, ◌+◌, ◌<◌, ◌≤◌, List, [], ◌∷◌, ◌++◌, Some, Bool, true, false, ◌⊎◌, inl, inr, length, take, refl, sym, ◌∙◌, ap, subst, arith, slice_get, length-append}
use Rattle.cov_lexer.specs.declared.token.Token.{Token}
use Rattle.cov_lexer.specs.declared.token.TokenKind.{TokenKind}
use Rattle.cov_lexer.specs.declared.kind.Kind.{Kind}
use Rattle.cov_lexer.specs.declared.kind.Kind.TheVariants.{Ident, OpenIndex, OpenSquare, Star, ThinArrow, Assign}
use Rattle.cov_grammar.specs.declared.marked.Marked.{Marked}
use Rattle.cov_grammar.specs.declared.place.Room.{Room}
use Rattle.cov_lexer.specs.Kinds.{has}
use Rattle.cov_grammar.specs.Expressions.{spelled}
use Rattle.cov_grammar.specs.Bins.{squares}
use Rattle.cov_grammar.specs.Marking.{kind_of, alone, expr_kinds, next_begins, with_neighbours, marked_from, marked}
use Rattle.cov_grammar.specs.Fault.{start, IsViableWithin}
use Rattle.cov_grammar.specs.Designs.{design}
use Rattle.cov_grammar.proofs.Whole.{viable_inside}
use Rattle.grammar_laws.specs.Continuations.{HasLike, AreAlike, LieIn, ArePlainFrom}
use Rattle.grammar_laws.proofs.Tails.{range_left}
use Rattle.grammar_laws.proofs.Completes.{Produces}
use Rattle.grammar_laws.proofs.Designs.{design_produces}
use Rattle.grammar_laws.proofs.Viable.{take_long, alike_viable, viable_goes_on}
use Rattle.grammar_laws.specs.Tables.{repetition_kinds}
use Rattle.grammar_laws.proofs.Keeps.{any, IsFlipped, HasNear, AreNear}
use Rattle.grammar_laws.specs.Tokens.{follows_name, word_of, AreSpelledAlike, EndsAlone, GoOnAlike, StandIn, LeadsOn}

-- the mark of what is no `[` is its kind
pub unmarked : (named : Bool) (k : Kind) (b : Bool) → has k squares ≡ false → with_neighbours named k b ≡ k
unmarked named OpenSquare b h = absurd (cc)
unmarked named k b h = refl

alone_same : (first second : List ℕ) (t u : Token) → u.kind ≡ t.kind → word_of second u ≡ word_of first t → alone second u ≡ alone first t
unfolding alone
alone_same first second t u e f = ap (λ (z : TokenKind). kind_of (word_of second u) z) e ∙ ap (λ (z : List ℕ). kind_of z t.kind) f

some_same : {A : Type 0} (a b : A) → Some a ≡ Some b → a ≡ b
some_same a b h = cc

-- the last of the first tokens, behind a name or not where they begin, is no `[` behind a name
pub record Untold (k : ℕ) (text : List ℕ) (named : Bool) (tokens : List Token) : Type 0 where
  pub other : (i : ℕ) (t : Token) → i + 1 ≡ k → slice_get tokens i ≡ Some t → (has (alone text t) squares ≡ false) ⊎ (follows_name text named tokens i ≡ false)

pub untold : (k : ℕ) (text : List ℕ) (tokens : List Token) → EndsAlone k text tokens → Untold k text false tokens
untold k text tokens h = record { other = h.other }

-- or what stands behind them begins alike
abbrev pub Meet : ℕ → Bool → List ℕ → List Token → List ℕ → List Token → Type 0
Meet k named first before second after = Untold k first named before ⊎ GoOnAlike k first before second after

-- no mark looks ahead where no name stands before it
unnamed : (k : Kind) (a b : Bool) → with_neighbours false k a ≡ with_neighbours false k b
unnamed OpenSquare a b = refl
unnamed k a b = refl

module _ (first second : List ℕ) where
  rest_alike : (k : ℕ) (t u : Token) (before after : List Token) → AreSpelledAlike (suc (suc k)) first (t ∷ before) second (u ∷ after) → AreSpelledAlike (suc k) first before second after
  rest_alike k t u before after a = record {
    many = (let m = a.many in omega arith);
    like = λ i x l h. let w = a.like (suc i) x (omega arith) h in record { token = w.token; stands = w.stands; kind = w.kind; spelling = w.spelling };
  }

  head_word : (k : ℕ) (t u : Token) (before after : List Token) → AreSpelledAlike (suc k) first (t ∷ before) second (u ∷ after) → word_of second u ≡ word_of first t
  head_word k t u before after a =
      let w = a.like 0 t (omega arith) refl in
      subst (λ (z : Token). word_of second z ≡ word_of first t) (sym (some_same u w.token w.stands)) w.spelling

  head_alone : (k : ℕ) (t u : Token) (before after : List Token) → AreSpelledAlike (suc k) first (t ∷ before) second (u ∷ after) → alone second u ≡ alone first t
  head_alone k t u before after a =
      let w = a.like 0 t (omega arith) refl in
      subst (λ (z : Token). alone second z ≡ alone first t) (sym (some_same u w.token w.stands)) (alone_same first second t w.token w.kind w.spelling)

  next_same : (k : ℕ) (t u : Token) (before after : List Token) → AreSpelledAlike (suc (suc k)) first (t ∷ before) second (u ∷ after) →
      next_begins second after ≡ next_begins first before
  next_same k t u [] after a = absurd (let m = a.many in omega arith)
  next_same k t u (s ∷ before) [] a = absurd (let w = (a.like 1 s (omega arith) refl).stands in cc)
  next_same k t u (s ∷ before) (v ∷ after) a = ap (λ (z : Kind). has z expr_kinds) (head_alone k s v before after (rest_alike k t u (s ∷ before) (v ∷ after) a))

  rest_meets : (k : ℕ) (named : Bool) (t u : Token) (before after : List Token) → Meet (suc (suc k)) named first (t ∷ before) second (u ∷ after) →
      Meet (suc k) (has (alone first t) (Ident ∷ [])) first before second after
  rest_meets k named t u before after meet = elim meet [
    | inl x ↦ inl (record { other = λ i y e h. x.other (suc i) y (omega arith) h })
    | inr x ↦ inr (record { next = x.next })
  ]

  head_mark : (k : ℕ) (named : Bool) (t u : Token) (before after : List Token) → AreSpelledAlike (suc k) first (t ∷ before) second (u ∷ after) →
      Meet (suc k) named first (t ∷ before) second (u ∷ after) →
      with_neighbours named (alone second u) (next_begins second after) ≡ with_neighbours named (alone first t) (next_begins first before)
  head_mark zero named t u before after a meet =
      let e = head_alone zero t u before after a in
      elim meet [
        | inl x ↦ elim (x.other 0 t refl refl) [
          | inl n ↦
              unmarked named (alone second u) (next_begins second after) (ap (λ (z : Kind). has z squares) e ∙ n) ∙ e ∙ sym (unmarked named (alone first t) (next_begins first before) n)
          | inr n ↦
              ap (λ (z : Kind). with_neighbours named z (next_begins second after)) e
              ∙ ap (λ (z : Bool). with_neighbours z (alone first t) (next_begins second after)) n
              ∙ unnamed (alone first t) (next_begins second after) (next_begins first before)
              ∙ ap (λ (z : Bool). with_neighbours z (alone first t) (next_begins first before)) (sym n)
        ]
        | inr x ↦ (ap (λ (z : Kind). with_neighbours named z (next_begins second after)) e ∙ ap (λ (z : Bool). with_neighbours named (alone first t) z) (sym x.next))
      ]
  head_mark (suc k) named t u before after a meet =
      ap (λ (z : Kind). with_neighbours named z (next_begins second after)) (head_alone (suc k) t u before after a)
      ∙ ap (λ (z : Bool). with_neighbours named (alone first t) z) (next_same k t u before after a)

  alike_marks : (k : ℕ) (named : Bool) (before after : List Token) → AreSpelledAlike (suc k) first before second after → Meet (suc k) named first before second after →
      (i : ℕ) (m : Marked) → i < suc k → slice_get (marked_from first named before) i ≡ Some m → HasLike first m second (marked_from second named after) i
  alike_marks k named [] after a meet i m l h = absurd (let x = a.many in omega arith)
  alike_marks k named (t ∷ before) [] a meet i m l h = absurd (let w = (a.like 0 t (omega arith) refl).stands in cc)
  alike_marks k named (t ∷ before) (u ∷ after) a meet zero m l h =
      subst (λ (z : Marked). HasLike first z second (marked_from second named (u ∷ after)) 0) (some_same _ m h) (record {
        token = record { kind = with_neighbours named (alone second u) (next_begins second after); at = u.«at»; len = u.len };
        stands = refl;
        kind = head_mark k named t u before after a meet;
        spelling = head_word k t u before after a;
      })
  alike_marks zero named (t ∷ before) (u ∷ after) a meet (suc i) m l h = absurd (omega arith)
  alike_marks (suc k) named (t ∷ before) (u ∷ after) a meet (suc i) m l h =
      let w = alike_marks k (has (alone first t) (Ident ∷ [])) before after (rest_alike k t u before after a) (rest_meets k named t u before after meet) i m (omega arith) h in
      let e : has (alone first t) (Ident ∷ []) ≡ has (alone second u) (Ident ∷ []) = ap (λ (z : Kind). has z (Ident ∷ [])) (sym (head_alone (suc k) t u before after a)) in
      let v = subst (λ (z : Bool). HasLike first m second (marked_from second z after) i) e w in
      record { token = v.token; stands = v.stands; kind = v.kind; spelling = v.spelling }

  -- tokens spelled alike are marked alike
  pub marked_alike : (k : ℕ) (before after : List Token) → AreSpelledAlike k first before second after → Meet k false first before second after →
      AreAlike k first (marked first before) second (marked second after)
  unfolding marked
  marked_alike zero before after a meet = record { like = λ i m l h. absurd (omega arith) }
  marked_alike (suc k) before after a meet = record { like = alike_marks k false before after a meet }

module _ (text more : List ℕ) where
  pub alone_stays : (t : Token) → t.«at» + t.len ≤ length text → alone (text ++ more) t ≡ alone text t
  unfolding alone
  alone_stays t l = ap (λ (z : List ℕ). kind_of z t.kind) (range_left text more t.«at» t.len l)

abbrev mark : Kind → ℕ → ℕ → Marked
mark k p l = record { kind = k; at = p; len = l }

pub plain_rest : (k : ℕ) (text : List ℕ) (t : Marked) (ts : List Marked) → ArePlainFrom 0 text (t ∷ ts) → ArePlainFrom 0 text ts
plain_rest k text t ts h = record { plain = λ i x l e. h.plain (suc i) x (omega arith) e }

-- plain tokens as they were before they were marked
abbrev pub before_marks : (text : List ℕ) (ts : List Marked) → ArePlainFrom 0 text ts → List Token
before_marks text [] h = []
before_marks text (t ∷ ts) h = record { kind = (h.plain 0 t (omega arith) refl).lexed; spelled = t.kind; «at» = t.at; len = t.len } ∷ before_marks text ts (plain_rest 0 text t ts h)

pub plain_marks : (text : List ℕ) (named : Bool) (ts : List Marked) (h : ArePlainFrom 0 text ts) → marked_from text named (before_marks text ts h) ≡ ts
unfolding alone
plain_marks text named [] h = refl
plain_marks text named (t ∷ ts) h =
    let p = h.plain 0 t (omega arith) refl in
    let rest = before_marks text ts (plain_rest 0 text t ts h) in
    let own : Token = record { kind = p.lexed; spelled = t.kind; «at» = t.at; len = t.len } in
    let e : with_neighbours named (alone text own) (next_begins text rest) ≡ t.kind =
    unmarked named (alone text own) (next_begins text rest) (ap (λ (z : Kind). has z squares) p.kind ∙ p.no_square) ∙ p.kind in
    ap (λ (z : Kind). mark z t.at t.len ∷ marked_from text (has (alone text own) (Ident ∷ [])) rest) e
    ∙ ap (λ (z : List Marked). t ∷ z) (plain_marks text (has (alone text own) (Ident ∷ [])) ts (plain_rest 0 text t ts h))

-- what is marked stands where it stood
lies_from : (k : ℕ) (text : List ℕ) (named : Bool) (ts : List Token) → StandIn k text ts → (i : ℕ) (m : Marked) → slice_get (take k (marked_from text named ts)) i ≡ Some m → m.at + m.len ≤ length text
lies_from zero text named ts h i m e = absurd (cc)
lies_from (suc k) text named [] h i m e = absurd (cc)
lies_from (suc k) text named (t ∷ ts) h zero m e = subst (λ (z : Marked). z.at + z.len ≤ length text) (some_same _ m e) (h.inside 0 t (omega arith) refl)
lies_from (suc k) text named (t ∷ ts) h (suc i) m e =
    lies_from k text (has (alone text t) (Ident ∷ [])) ts (record { inside = λ j x l f. h.inside (suc j) x (omega arith) f }) i m e

pub marked_lie : (k : ℕ) (text : List ℕ) (ts : List Token) → StandIn k text ts → LieIn text (take k (marked text ts))
unfolding marked
marked_lie k text ts h = record { inside = lies_from k text false ts h }

long_from : (text : List ℕ) (named : Bool) (ts : List Token) → length (marked_from text named ts) ≡ length ts
long_from text named [] = refl
long_from text named (t ∷ ts) = let e = long_from text (has (alone text t) (Ident ∷ [])) ts in omega arith

pub marked_long : (text : List ℕ) (ts : List Token) → length (marked text ts) ≡ length ts
unfolding marked
marked_long text ts = long_from text false ts

get_behind : {A : Type 0} (xs ys : List A) (i j : ℕ) → j ≡ length xs + i → slice_get (xs ++ ys) j ≡ slice_get ys i
get_behind [] ys i j h = let e : j ≡ i = omega arith in ap (λ z. slice_get ys z) e
get_behind (x ∷ xs) ys i zero h = absurd (omega arith)
get_behind (x ∷ xs) ys i (suc j) h = get_behind xs ys i j (omega arith)

pub plain_behind : (n : ℕ) (text : List ℕ) (ts : List Marked) (behind : List Marked) → length ts ≡ n → ArePlainFrom n text (ts ++ behind) → ArePlainFrom 0 text behind
plain_behind n text ts behind l h = record { plain = λ i t z e. h.plain (length ts + i) t (omega arith) (get_behind ts behind i (length ts + i) refl ∙ e) }

near_self : (text : List ℕ) (ts : List Marked) → AreNear text ts text ts
near_self text ts = record { near = λ i t h. record { token = t; stands = h; spelling = refl; kind = inl refl } }

flipped_behind : (m : Marked) (ts : List Marked) (t u : Marked) (i : ℕ) → IsFlipped ts t u i → IsFlipped (m ∷ ts) t u (suc i)
flipped_behind m ts t u i f =
    let shift : suc i + 1 ≡ suc (i + 1) = omega arith in
    let back = λ (x : Marked) (e : slice_get (m ∷ ts) (suc i + 1) ≡ Some x). subst (λ (z : ℕ). slice_get (m ∷ ts) z ≡ Some x) shift e in
    record {
      how = elim f.how [
        | inl h ↦ inl (h.0, h.1, λ x e. h.2 x (back x e))
        | inr h ↦ inr (h.0, h.1, λ x e. h.2 x (back x e))
      ];
    }

near_head : (text : List ℕ) (m n : Marked) (ts us : List Marked) → spelled text n ≡ spelled text m → (n.kind ≡ m.kind) ⊎ IsFlipped (m ∷ ts) m n 0 → AreNear text ts text us →
    AreNear text (m ∷ ts) text (n ∷ us)
near_head text m n ts us spelt kind rest = record { near = at } where
  at : (i : ℕ) (t : Marked) → slice_get (m ∷ ts) i ≡ Some t → HasNear text (m ∷ ts) t text (n ∷ us) i
  at zero t h = subst (λ (z : Marked). HasNear text (m ∷ ts) z text (n ∷ us) 0) (some_same m t h) (record { token = n; stands = refl; spelling = spelt; kind = kind })
  at (suc i) t h =
      let w = rest.near i t h in
      record {
        token = w.token;
        stands = w.stands;
        spelling = w.spelling;
        kind = elim w.kind [ inl e ↦ inl e | inr f ↦ inr (flipped_behind m ts t w.token i f) ];
      }

-- what can begin an expression is no operator of a repetition
no_repetition : (k : Kind) → has k expr_kinds ≡ true → has k repetition_kinds ≡ false
no_repetition Star h = absurd (cc)
no_repetition ThinArrow h = absurd (cc)
no_repetition Assign h = absurd (cc)
no_repetition k h = refl

-- two marks of a kind are one, or those of a `[` where one of what stands behind begins an expression and the other doesn't
two_marks : (named : Bool) (k : Kind) (a b : Bool) → (with_neighbours named k b ≡ with_neighbours named k a)
    ⊎ (((with_neighbours named k a ≡ OpenSquare) × (with_neighbours named k b ≡ OpenIndex) × (b ≡ true))
    ⊎ ((with_neighbours named k a ≡ OpenIndex) × (with_neighbours named k b ≡ OpenSquare) × (b ≡ false)))
two_marks false OpenSquare a b = inl refl
two_marks true OpenSquare true true = inl refl
two_marks true OpenSquare false false = inl refl
two_marks true OpenSquare false true = inr (inl (refl, refl, refl))
two_marks true OpenSquare true false = inr (inr (refl, refl, refl))
two_marks named k a b = inl refl

next_plain : (text : List ℕ) (ts : List Marked) (h : ArePlainFrom 0 text ts) (x : Marked) → slice_get ts 0 ≡ Some x → next_begins text (before_marks text ts h) ≡ has x.kind expr_kinds
unfolding alone
next_plain text [] h x e = absurd (cc)
next_plain text (t ∷ ts) h x e =
    let p = h.plain 0 t (omega arith) refl in
    ap (λ (z : Kind). has z expr_kinds) p.kind ∙ ap (λ (z : Marked). has z.kind expr_kinds) (some_same t x e)

module _ (text more : List ℕ) (behind : List Marked) (plain : ArePlainFrom 0 (text ++ more) behind) where
  abbrev rest_of : List Token
  rest_of = before_marks (text ++ more) behind plain

  last_near : (named : Bool) (k : Kind) (a : Bool) (p l : ℕ) →
      (with_neighbours named k (next_begins (text ++ more) rest_of) ≡ with_neighbours named k a)
      ⊎ IsFlipped (mark (with_neighbours named k a) p l ∷ behind) (mark (with_neighbours named k a) p l) (mark (with_neighbours named k (next_begins (text ++ more) rest_of)) p l) 0
  last_near named k a p l =
      let b = next_begins (text ++ more) rest_of in
      elim (two_marks named k a b) [
        | inl e ↦ inl e
        | inr f ↦ inr (record {
          how = elim f [
            | inl h ↦ inl (h.0, h.1, λ x e. no_repetition x.kind (sym (next_plain (text ++ more) behind plain x e) ∙ h.2))
            | inr h ↦ inr (h.0, h.1, λ x e. sym (next_plain (text ++ more) behind plain x e) ∙ h.2)
          ];
        })
      ]

  near_from : (k : ℕ) (named : Bool) (ts : List Token) → suc k ≤ length ts → StandIn (suc k) text ts →
      AreNear (text ++ more) (take (suc k) (marked_from text named ts) ++ behind) (text ++ more) (marked_from (text ++ more) named (take (suc k) ts ++ rest_of))
  near_from k named [] l h = absurd (omega arith)
  near_from zero named (t ∷ ts) l h =
      let a = alone_stays text more t (h.inside 0 t (omega arith) refl) in
      let b = next_begins (text ++ more) rest_of in
      let n = mark (with_neighbours named (alone text t) b) t.«at» t.len in
      let m = mark (with_neighbours named (alone text t) (next_begins text ts)) t.«at» t.len in
      let us = marked_from (text ++ more) (has (alone (text ++ more) t) (Ident ∷ [])) rest_of in
      let tail : AreNear (text ++ more) behind (text ++ more) us =
      subst (λ (z : List Marked). AreNear (text ++ more) behind (text ++ more) z) (sym (plain_marks (text ++ more) (has (alone (text ++ more) t) (Ident ∷ [])) behind plain)) (near_self (text ++ more) behind) in
      let all : AreNear (text ++ more) (m ∷ behind) (text ++ more) (n ∷ us) =
      near_head (text ++ more) m n behind us refl (last_near named (alone text t) (next_begins text ts) t.«at» t.len) tail in
      subst (λ (z : Kind). AreNear (text ++ more) (m ∷ behind) (text ++ more) (mark (with_neighbours named z b) t.«at» t.len ∷ us)) (sym a) all
  near_from (suc k) named (t ∷ []) l h = absurd (omega arith)
  near_from (suc k) named (t ∷ s ∷ ts) l h =
      let a = alone_stays text more t (h.inside 0 t (omega arith) refl) in
      let b = alone_stays text more s (h.inside 1 s (omega arith) refl) in
      let other = text ++ more in
      let m = mark (with_neighbours named (alone text t) (has (alone text s) expr_kinds)) t.«at» t.len in
      let n = mark (with_neighbours named (alone other t) (has (alone other s) expr_kinds)) t.«at» t.len in
      let e : n.kind ≡ m.kind =
      ap (λ (z : Kind). with_neighbours named z (has (alone other s) expr_kinds)) a ∙ ap (λ (z : Kind). with_neighbours named (alone text t) (has z expr_kinds)) b in
      let firsts = take (suc k) (marked_from text (has (alone text t) (Ident ∷ [])) (s ∷ ts)) ++ behind in
      let rest = near_from k (has (alone text t) (Ident ∷ [])) (s ∷ ts) (omega arith) (record { inside = λ i x j f. h.inside (suc i) x (omega arith) f }) in
      let tail : AreNear other firsts other (marked_from other (has (alone other t) (Ident ∷ [])) (take (suc k) (s ∷ ts) ++ rest_of)) =
      subst (λ (z : Kind). AreNear other firsts other (marked_from other (has z (Ident ∷ [])) (take (suc k) (s ∷ ts) ++ rest_of))) (sym a) rest in
      near_head other m n firsts (marked_from other (has (alone other t) (Ident ∷ [])) (take (suc k) (s ∷ ts) ++ rest_of)) refl (inl e) tail

  rest_long : length rest_of ≡ length behind
  rest_long = sym (long_from (text ++ more) false rest_of) ∙ ap length (plain_marks (text ++ more) false behind plain)

  pub near_marks : (k : ℕ) (ts : List Token) → k ≤ length ts → StandIn k text ts →
      AreNear (text ++ more) (take k (marked text ts) ++ behind) (text ++ more) (marked (text ++ more) (take k ts ++ rest_of))
  unfolding marked
  near_marks zero ts l h = subst (λ (z : List Marked). AreNear (text ++ more) behind (text ++ more) z) (sym (plain_marks (text ++ more) false behind plain)) (near_self (text ++ more) behind)
  near_marks (suc k) ts l h = near_from k false ts l h

  pub near_long : (k : ℕ) (ts : List Token) → k ≤ length ts → length (take k (marked text ts) ++ behind) ≡ length (marked (text ++ more) (take k ts ++ rest_of))
  near_long k ts l =
      let a = length-append (take k (marked text ts)) behind in
      let b = length-append (take k ts) rest_of in
      let c = marked_long text ts in
      let d = marked_long (text ++ more) (take k ts ++ rest_of) in
      let e = take_long k ts l in
      let f = take_long k (marked text ts) (omega arith) in
      let g = rest_long in
      omega arith

-- viable first tokens lead on to a design
pub viable_leads_on : (room : Room) (text : List ℕ) (ts : List Token) (k : ℕ) → StandIn k text ts → IsViableWithin room text (marked text ts) k → LeadsOn room text ts k
viable_leads_on room text ts k stand h =
    let g = viable_goes_on room text (marked text ts) k (marked_lie k text ts stand) h in
    let l = viable_inside text (marked text ts) room k h in
    let e = marked_long text ts in
    let plain = plain_behind k (text ++ g.more) (take k (marked text ts)) g.behind (take_long k (marked text ts) l) g.plain in
    let p : Produces {S = Unit {0}} true any any (λ _ text ts. design text ts room) = design_produces room in
    let near = near_marks text g.more g.behind plain k ts (omega arith) stand in
    let d = (p.begun.sways refl (text ++ g.more) _ (text ++ g.more) _ near tt tt tt).derives start g.decls g.derives.0 g.derives.1 in
    record {
      more = g.more;
      behind = before_marks (text ++ g.more) g.behind plain;
      decls = d.0;
      derives = (g.derives.0, d.2, g.derives.2 ∙ near_long text g.more g.behind plain k ts (omega arith));
    }

pub spelled_alike_viable : (room : Room) (first second : List ℕ) (before after : List Token) (k : ℕ) → AreSpelledAlike k first before second after → Meet k false first before second after →
    IsViableWithin room first (marked first before) k → IsViableWithin room second (marked second after) k
spelled_alike_viable room first second before after k a meet h =
    alike_viable room k first (marked first before) second (marked second after) (marked_alike first second k before after a meet) h
