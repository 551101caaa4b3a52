-- What the tables of the grammar say of the kinds that its rules read, and that each literal has a meaning.
use Rattle.std.proofs.Common.{◌≡◌, ℕ, zero, suc, ◌+◌, List, [], ◌∷◌, Option, Some, None, IsSome, true, ◌⊎◌, inl, inr, refl, subst, length, slice_get, slice_range}
use Rattle.cov_tree.specs.declared.expr.Expr.{Expr}
use Rattle.cov_tree.specs.declared.literal.Literal.{Literal}
use Rattle.cov_lexer.specs.declared.token.Token.{Token}
use Rattle.cov_lexer.specs.declared.token.TokenKind.{TokenKind}
use Rattle.cov_lexer.specs.declared.token.TokenKind.TheVariants as lexed
use Rattle.cov_lexer.specs.Literals.{literal_of}
use Rattle.cov_lexer.specs.Lexes.{Lexes, IsWithin, AllWithin}
use Rattle.cov_lexer.proofs.Covering.{covers_within}
use Rattle.cov_lexer.specs.declared.kind.Kind.{Kind}
use Rattle.cov_lexer.specs.declared.kind.Kind.TheVariants.{PlusSign, Minus, Star, Slash, Percent, Tilde, Bang, Ampersand, AndAnd, Bar, OrOr, Caret, TildeAnd, TildeOr, TildeCaret, Less, LessEqual, Greater, GreaterEqual, EqualEqual, NotEqual, ShiftLeft, ShiftRight, SignedLeft, SignedRight, ThinArrow, Assign, BinsWord, IllegalBinsWord, IgnoreBinsWord, ByteWord, ShortintWord, IntWord, LongintWord, IntegerWord, PosedgeWord, NegedgeWord, EdgeWord}
use Rattle.cov_lexer.specs.Kinds.{has}
use Rattle.cov_grammar.specs.Operators.{unary_kinds, unary_of, level_kinds, binary_of}
use Rattle.cov_grammar.specs.Bins.{times_of, bins_words, bins_word_of}
use Rattle.cov_grammar.specs.Designs.{fixed_words, width_of, edge_kind}
use Rattle.cov_grammar.specs.Expressions.{literal_or}
use Rattle.grammar_laws.specs.Tables.{unary_at, binary_at, times_at, bins_word_at, width_at, edge_at, repetition_kinds, edge_kinds}
use Rattle.grammar_laws.specs.Tokens.{word_of}

pub unary_known : (k : Kind) → has k unary_kinds ≡ true → unary_at k ≡ Some (unary_of k)
unary_known PlusSign h = refl
unary_known Minus h = refl
unary_known Bang h = refl
unary_known Tilde h = refl
unary_known Ampersand h = refl
unary_known Bar h = refl
unary_known Caret h = refl
unary_known TildeAnd h = refl
unary_known TildeOr h = refl
unary_known TildeCaret h = refl
unary_known k h = absurd (cc)

pub times_known : (k : Kind) (low high : Expr) → has k repetition_kinds ≡ true → times_at k low high ≡ Some (times_of k low high)
times_known Star low high h = refl
times_known ThinArrow low high h = refl
times_known Assign low high h = refl
times_known k low high h = absurd (cc)

pub bins_word_known : (k : Kind) → has k bins_words ≡ true → bins_word_at k ≡ Some (bins_word_of k)
bins_word_known BinsWord h = refl
bins_word_known IllegalBinsWord h = refl
bins_word_known IgnoreBinsWord h = refl
bins_word_known k h = absurd (cc)

pub width_known : (k : Kind) → has k fixed_words ≡ true → width_at k ≡ Some (width_of k)
width_known ByteWord h = refl
width_known ShortintWord h = refl
width_known IntWord h = refl
width_known LongintWord h = refl
width_known IntegerWord h = refl
width_known k h = absurd (cc)

pub edge_known : (k : Kind) → has k edge_kinds ≡ true → edge_at k ≡ Some (edge_kind k)
edge_known PosedgeWord h = refl
edge_known NegedgeWord h = refl
edge_known EdgeWord h = refl
edge_known k h = absurd (cc)

known_0 : (k : Kind) → has k (Star ∷ Slash ∷ Percent ∷ []) ≡ true → binary_at k ≡ Some (binary_of k)
known_0 Star h = refl
known_0 Slash h = refl
known_0 Percent h = refl
known_0 k h = absurd (cc)

known_1 : (k : Kind) → has k (PlusSign ∷ Minus ∷ []) ≡ true → binary_at k ≡ Some (binary_of k)
known_1 PlusSign h = refl
known_1 Minus h = refl
known_1 k h = absurd (cc)

known_2 : (k : Kind) → has k (ShiftLeft ∷ ShiftRight ∷ SignedLeft ∷ SignedRight ∷ []) ≡ true → binary_at k ≡ Some (binary_of k)
known_2 ShiftLeft h = refl
known_2 ShiftRight h = refl
known_2 SignedLeft h = refl
known_2 SignedRight h = refl
known_2 k h = absurd (cc)

known_3 : (k : Kind) → has k (Less ∷ LessEqual ∷ Greater ∷ GreaterEqual ∷ []) ≡ true → binary_at k ≡ Some (binary_of k)
known_3 Less h = refl
known_3 LessEqual h = refl
known_3 Greater h = refl
known_3 GreaterEqual h = refl
known_3 k h = absurd (cc)

known_4 : (k : Kind) → has k (EqualEqual ∷ NotEqual ∷ []) ≡ true → binary_at k ≡ Some (binary_of k)
known_4 EqualEqual h = refl
known_4 NotEqual h = refl
known_4 k h = absurd (cc)

known_5 : (k : Kind) → has k (Ampersand ∷ []) ≡ true → binary_at k ≡ Some (binary_of k)
known_5 Ampersand h = refl
known_5 k h = absurd (cc)

known_6 : (k : Kind) → has k (Caret ∷ []) ≡ true → binary_at k ≡ Some (binary_of k)
known_6 Caret h = refl
known_6 k h = absurd (cc)

known_7 : (k : Kind) → has k (Bar ∷ []) ≡ true → binary_at k ≡ Some (binary_of k)
known_7 Bar h = refl
known_7 k h = absurd (cc)

known_8 : (k : Kind) → has k (AndAnd ∷ []) ≡ true → binary_at k ≡ Some (binary_of k)
known_8 AndAnd h = refl
known_8 k h = absurd (cc)

known_9 : (k : Kind) → has k (OrOr ∷ []) ≡ true → binary_at k ≡ Some (binary_of k)
known_9 OrOr h = refl
known_9 k h = absurd (cc)

pub binary_known : (level : ℕ) (k : Kind) → has k (level_kinds level) ≡ true → binary_at k ≡ Some (binary_of k)
binary_known zero k h = known_0 k h
binary_known (suc zero) k h = known_1 k h
binary_known (suc (suc zero)) k h = known_2 k h
binary_known (suc (suc (suc zero))) k h = known_3 k h
binary_known (suc (suc (suc (suc zero)))) k h = known_4 k h
binary_known (suc (suc (suc (suc (suc zero))))) k h = known_5 k h
binary_known (suc (suc (suc (suc (suc (suc zero)))))) k h = known_6 k h
binary_known (suc (suc (suc (suc (suc (suc (suc zero))))))) k h = known_7 k h
binary_known (suc (suc (suc (suc (suc (suc (suc (suc zero)))))))) k h = known_8 k h
binary_known (suc (suc (suc (suc (suc (suc (suc (suc (suc zero))))))))) k h = known_9 k h
binary_known (suc (suc (suc (suc (suc (suc (suc (suc (suc (suc n)))))))))) k h = absurd (cc)

token_within : (text : List ℕ) (ts : List Token) → AllWithin text ts → (i : ℕ) (t : Token) → slice_get ts i ≡ Some t → IsWithin text t.«at» t.kind (t.«at» + t.len)
token_within text [] h i t e = absurd (cc)
token_within text (x ∷ ts) h zero t e = subst (λ (z : Token). IsWithin text z.«at» z.kind (z.«at» + z.len)) (let s : x ≡ t = cc in s) h.0
token_within text (x ∷ ts) h (suc i) t e = token_within text ts h.1 i t e

numeral_within : (text : List ℕ) (i j : ℕ) (k : TokenKind) → (k ≡ lexed.Decimal) ⊎ (k ≡ lexed.Based) → IsWithin text i k j → IsSome (literal_of (slice_range text i j))
numeral_within text i j k h w = elim h [
  | inl e ↦ subst (λ (z : TokenKind). IsWithin text i z j) e w
  | inr e ↦ subst (λ (z : TokenKind). IsWithin text i z j) e w
]

or_known : (o : Option Literal) → IsSome o → o ≡ Some (literal_or o)
or_known None h = absurd (cc)
or_known (Some l) h = refl

pub literal_known : (text : List ℕ) (ts : List Token) → Lexes text ts → (i : ℕ) (t : Token) → slice_get ts i ≡ Some t → (t.kind ≡ lexed.Decimal) ⊎ (t.kind ≡ lexed.Based) →
    literal_of (word_of text t) ≡ Some (literal_or (literal_of (word_of text t)))
literal_known text ts l i t e k = or_known (literal_of (word_of text t)) (numeral_within text t.«at» (t.«at» + t.len) t.kind k (token_within text ts (covers_within text l.0 0 ts (length text) l.1) i t e))
