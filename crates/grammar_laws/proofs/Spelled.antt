-- What each token of a text spells: a literal its parts, a word its entry in the table.
use Rattle.std.proofs.Common.{◌≡◌, ℕ, zero, suc, ◌+◌, List, [], ◌∷◌, Option, Some, None, is_some, true, ◌⊎◌, inl, inr, refl, sym, ◌∙◌, ap, subst, arith, length, slice_get, slice_range}
use Rattle.cov_lexer.specs.declared.bytes.Base.TheVariants as bases
use Rattle.cov_lexer.specs.declared.kind.Kind.{Kind}
use Rattle.cov_lexer.specs.declared.kind.Kind.TheVariants.{NotSupported}
use Rattle.cov_lexer.specs.declared.token.Token.{Token}
use Rattle.cov_lexer.specs.declared.token.TokenKind.{TokenKind}
use Rattle.cov_lexer.specs.declared.token.TokenKind.TheVariants as lexed
use Rattle.cov_lexer.specs.Spellings.{Spelling, words, operators, kind_among, is_keyword, or_other}
use Rattle.cov_lexer.specs.Operators.{sort_of, IsOneAt}
use Rattle.cov_lexer.specs.Forms.{Item, Spells}
use Rattle.cov_lexer.specs.Literals.{literal_of, decimal_literal, value_of, HasParts}
use Rattle.cov_lexer.specs.Lexes.{Covers, Lexes, IsSpelled}
use Rattle.cov_lexer.proofs.Meanings.{decimal_means, decimal_found, based_found}
use Rattle.cov_lexer.proofs.Tables.{AreKnown, operators_known, stands_spelled}
use Rattle.grammar_laws.specs.Tokens.{word_of}

-- what the cover of a text says of a token
record Stands (text : List ℕ) (t : Token) : Type 0 where
  piece : Spells text t.«at» (Item t.kind) (t.«at» + t.len)
  spelled : IsSpelled text t.«at» t.kind (t.«at» + t.len) t.spelled

abbrev AllStand : List ℕ → List Token → Type 0
AllStand text [] = Unit {0}
AllStand text (t ∷ ts) = Stands text t × AllStand text ts

covers_stand : (text : List ℕ) (c i : ℕ) (ts : List Token) (j : ℕ) → Covers text c i ts j → AllStand text ts
covers_stand text zero i ts j h = subst (λ xs. AllStand text xs) (sym h.0) tt
covers_stand text (suc c) i ts j h = elim h.3 [
  | inl p ↦ covers_stand text c h.0 ts j p.1
  | inr p ↦
      (
      let r = covers_stand text c h.0 p.1 j p.7 in
      let e : h.0 ≡ p.0.«at» + p.0.len = (let a = p.3 in let b = p.4 in omega arith) in
      let s : Stands text p.0 = record {
        piece = subst (λ q. Spells text p.0.«at» (Item p.0.kind) q) e (subst (λ q. Spells text q (Item p.0.kind) h.0) (sym p.3) p.5.piece.spells);
        spelled = subst (λ q. IsSpelled text p.0.«at» p.0.kind q p.0.spelled) e (subst (λ q. IsSpelled text q p.0.kind h.0 p.0.spelled) (sym p.3) p.6);
      } in
      subst (λ xs. AllStand text xs) (sym p.2) (s, r)
      )
]

one_of_all : (text : List ℕ) (ts : List Token) → AllStand text ts → (i : ℕ) (t : Token) → slice_get ts i ≡ Some t → Stands text t
one_of_all text [] h i t e = absurd (cc)
one_of_all text (x ∷ ts) h zero t e = subst (λ (z : Token). Stands text z) (let s : x ≡ t = cc in s) h.0
one_of_all text (x ∷ ts) h (suc i) t e = one_of_all text ts h.1 i t e

module _ (text : List ℕ) (ts : List Token) (l : Lexes text ts) (i : ℕ) (t : Token) (is : slice_get ts i ≡ Some t) where
  stands : Stands text t
  stands = one_of_all text ts (covers_stand text l.0 0 ts (length text) l.1) i t is

  piece_of : (k : TokenKind) → t.kind ≡ k → Spells text t.«at» (Item k) (t.«at» + t.len)
  piece_of k e = subst (λ (z : TokenKind). Spells text t.«at» (Item z) (t.«at» + t.len)) e stands.piece

  spelled_of : (k : TokenKind) → t.kind ≡ k → IsSpelled text t.«at» k (t.«at» + t.len) t.spelled
  spelled_of k e = subst (λ (z : TokenKind). IsSpelled text t.«at» z (t.«at» + t.len) t.spelled) e stands.spelled

  -- literals

  pub decimal_value : t.kind ≡ lexed.Decimal → literal_of (word_of text t) ≡ decimal_literal (value_of bases.Decimal (word_of text t))
  decimal_value e = decimal_means (word_of text t) (decimal_found text t.«at» (t.«at» + t.len) (piece_of lexed.Decimal e))

  pub based_parts : t.kind ≡ lexed.Based → HasParts (word_of text t)
  based_parts e = based_found text t.«at» (t.«at» + t.len) (piece_of lexed.Based e)

  -- words

  found_word : (o : Option Kind) (k : Kind) → is_some o ≡ true → k ≡ or_other o → o ≡ Some k
  found_word None k h e = absurd (cc)
  found_word (Some x) k h e = ap (λ z. Some z) (sym e)

  pub keyword_entry : t.kind ≡ lexed.Keyword → kind_among (word_of text t) words ≡ Some t.spelled
  unfolding is_keyword
  keyword_entry e = found_word (kind_among (word_of text t) words) t.spelled (piece_of lexed.Keyword e).1 (spelled_of lexed.Keyword e)

  -- operators

  record Entry (k : TokenKind) (w : List ℕ) (all : List Spelling) : Type 0 where
    kind : Kind
    sort : sort_of kind ≡ k
    known : kind_among w all ≡ Some kind

  one_known : (i : ℕ) (k : TokenKind) (n : ℕ) (all ss : List Spelling) → AreKnown all ss → IsOneAt text i k ss n → Entry k (slice_range text i n) all
  unfolding IsOneAt
  one_known i k n all [] a h = absurd h
  one_known i k n all (s ∷ ss) a h = elim h [
    | inl p ↦ record {
      kind = s.kind;
      sort = p.0;
      known = subst (λ m. kind_among (slice_range text i m) all ≡ Some s.kind) (sym p.2) (subst (λ (w : List ℕ). kind_among w all ≡ Some s.kind) (sym (stands_spelled text i s.text p.1)) a.0);
    }
    | inr p ↦ one_known i k n all ss a.1 p
  ]

  only_unsupported : (k : Kind) → sort_of k ≡ lexed.NotSupported → k ≡ NotSupported
  only_unsupported NotSupported h = refl
  only_unsupported k h = absurd (cc)

  entry_kept : (k : TokenKind) (e : Entry k (word_of text t) operators) → t.spelled ≡ e.kind → t.kind ≡ k → (kind_among (word_of text t) operators ≡ Some t.spelled) × (sort_of t.spelled ≡ t.kind)
  entry_kept k e same is = (e.known ∙ ap (λ z. Some z) (sym same), ap sort_of same ∙ (e.sort ∙ sym is))

  pub operator_entry : (t.kind ≡ lexed.Operator) ⊎ (t.kind ≡ lexed.NotSupported) → (kind_among (word_of text t) operators ≡ Some t.spelled) × (sort_of t.spelled ≡ t.kind)
  operator_entry h = elim h [
    | inl e ↦ (let f = one_known t.«at» lexed.Operator (t.«at» + t.len) operators operators operators_known (piece_of lexed.Operator e) in
        entry_kept lexed.Operator f (spelled_of lexed.Operator e ∙ ap or_other f.known) e)
    | inr e ↦ (let f = one_known t.«at» lexed.NotSupported (t.«at» + t.len) operators operators operators_known (piece_of lexed.NotSupported e) in
        entry_kept lexed.NotSupported f (spelled_of lexed.NotSupported e ∙ sym (only_unsupported f.kind f.sort)) e)
  ]
