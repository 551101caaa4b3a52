-- A text is covered in one way.
use Rattle.std.proofs.Common.{◌≡◌, ◌≢◌, ℕ, zero, suc, ◌+◌, ◌<◌, ◌≤◌, List, [], ◌∷◌, Bool, true, false, ◌⊎◌, inl, inr, Option, None, IsSome, length, get_or, slice_range, sym, ◌∙◌, ap, subst, arith}
use Rattle.cov_lexer.specs.declared.token.TokenKind.{TokenKind}
use Rattle.cov_lexer.specs.declared.token.TokenKind.TheVariants.{Ident, Decimal, Based}
use Rattle.cov_lexer.specs.declared.kind.Kind.{Kind}
use Rattle.cov_lexer.specs.declared.token.Token.{Token}
use Rattle.cov_lexer.specs.declared.token.LexFault.{LexFault}
use Rattle.cov_lexer.specs.declared.token.LexFault.TheVariants.{BadByte, OpenComment, OpenString, LiteralTooWide, NameTooLong, Memory}
use Rattle.cov_tree.specs.declared.literal.Literal.{Literal}
use Rattle.cov_lexer.specs.Forms.{Piece, Separator, Item, Spells, IsPiece}
use Rattle.cov_lexer.specs.Spellings.{kind_of}
use Rattle.cov_lexer.specs.Literals.{literal_of}
use Rattle.cov_ground.specs.Limits.{longest_name}
use Rattle.cov_lexer.specs.Lexes.{IsToken, IsWithin, Covers, Lexes, IsNothing, IsFaultAt, IsLexFault, Ascend, place, opens_comment, AllWithin, IsSpelled, AllSpelled}

pub piece_same : (text : List ℕ) (i : ℕ) (p q : Piece) (j k : ℕ) → IsPiece text i p j → IsPiece text i q k → (j ≡ k) × (p ≡ q)
piece_same text i p q j k x y =
    let a = x.longest q k y.spells in
    let b = y.longest p j x.spells in
    elim a [
      | inl l ↦ elim b [ inl m ↦ absurd (omega arith) | inr m ↦ absurd (let e = m.0 in omega arith) ]
      | inr e ↦ (sym e.0, sym e.1)
    ]

-- nothing that covers a text can stand at j
abbrev pub IsStuck : List ℕ → ℕ → Type 0
IsStuck text j = (n : ℕ) → j < n → n ≤ length text → (IsPiece text j Separator n ⊎ ((k : TokenKind) × IsToken text j k n)) → ⊥

pub stuck_at_end : (text : List ℕ) → IsStuck text (length text)
stuck_at_end text n l m s = absurd (omega arith)

abbrev made : TokenKind → Kind → ℕ → ℕ → Token
made k w a l = record { kind = k; spelled = w; «at» = a; len = l }

token_equal : (a b : Token) → a.kind ≡ b.kind → a.spelled ≡ b.spelled → a.«at» ≡ b.«at» → a.len ≡ b.len → a ≡ b
token_equal a b k w s e =
    ap (λ x. made x a.spelled a.«at» a.len) k
    ∙ (ap (λ x. made b.kind x a.«at» a.len) w ∙ (ap (λ x. made b.kind b.spelled x a.len) s ∙ ap (λ x. made b.kind b.spelled b.«at» x) e))

-- the same bytes spell one kind as one sort of token
one_spelled : (text : List ℕ) (i j n : ℕ) (a b : TokenKind) (k w : Kind) → j ≡ n → a ≡ b → IsSpelled text i a j k → IsSpelled text i b n w → k ≡ w
one_spelled text i j n a b k w e f x y =
    x ∙ (ap (λ (z : ℕ). kind_of (slice_range text i z) a) e ∙ (ap (λ (z : TokenKind). kind_of (slice_range text i n) z) f ∙ sym y))

item_same : (a b : TokenKind) → Item a ≡ Item b → a ≡ b
item_same a b h = cc

-- two ways to cover a text up to where nothing more can stand are one
pub covers_meet : (text : List ℕ) (c d i : ℕ) (ts us : List Token) (j k : ℕ) → IsStuck text j → IsStuck text k → Covers text c i ts j → Covers text d i us k → (ts ≡ us) × (j ≡ k)
covers_meet text zero zero i ts us j k a b h g = (h.0 ∙ sym g.0, sym h.1 ∙ g.1)
covers_meet text zero (suc d) i ts us j k a b h g =
    let s = subst (λ q. IsStuck text q) (sym h.1) a in
    elim g.3 [
      | inl p ↦ absurd (s g.0 g.1 g.2 (inl p.0))
      | inr p ↦ absurd (s g.0 g.1 g.2 (inr (p.0.kind, p.5)))
    ]
covers_meet text (suc c) zero i ts us j k a b h g =
    let s = subst (λ q. IsStuck text q) (sym g.1) b in
    elim h.3 [
      | inl p ↦ absurd (s h.0 h.1 h.2 (inl p.0))
      | inr p ↦ absurd (s h.0 h.1 h.2 (inr (p.0.kind, p.5)))
    ]
covers_meet text (suc c) (suc d) i ts us j k a b h g = elim h.3 [
  | inl p ↦ elim g.3 [
    | inl q ↦ (let e = piece_same text i Separator Separator h.0 g.0 p.0 q.0 in
        covers_meet text c d g.0 ts us j k a b (subst (λ n. Covers text c n ts j) e.0 p.1) q.1)
    | inr q ↦ absurd (let e = (piece_same text i Separator (Item q.0.kind) h.0 g.0 p.0 q.5.piece).1 in cc)
  ]
  | inr p ↦ elim g.3 [
    | inl q ↦ absurd (let e = (piece_same text i (Item p.0.kind) Separator h.0 g.0 p.5.piece q.0).1 in cc)
    | inr q ↦ (let e = piece_same text i (Item p.0.kind) (Item q.0.kind) h.0 g.0 p.5.piece q.5.piece in
        let same = item_same p.0.kind q.0.kind e.1 in
        let w = one_spelled text i h.0 g.0 p.0.kind q.0.kind p.0.spelled q.0.spelled e.0 same p.6 q.6 in
        let t = token_equal p.0 q.0 same w (p.3 ∙ sym q.3) (let x = p.4 in let y = q.4 in let z = e.0 in omega arith) in
        let r = covers_meet text c d g.0 p.1 q.1 j k a b (subst (λ n. Covers text c n p.1 j) e.0 p.7) q.7 in
        (p.2 ∙ (ap (λ x. x ∷ p.1) t ∙ (ap (λ xs. q.0 ∷ xs) r.0 ∙ sym q.2)), r.1))
  ]
]

pub one_list : (text : List ℕ) (ts us : List Token) → Lexes text ts → Lexes text us → ts ≡ us
one_list text ts us h g = (covers_meet text h.0 g.0 0 ts us (length text) (length text) (stuck_at_end text) (stuck_at_end text) h.1 g.1).0

-- faults

token_spells : (text : List ℕ) (k n : ℕ) → ((p : Piece) (m : ℕ) → Spells text k p m → ⊥) → (IsPiece text k Separator n ⊎ ((t : TokenKind) × IsToken text k t n)) → ⊥
token_spells text k n none s = elim s [ inl p ↦ none Separator n p.spells | inr p ↦ none (Item p.0) n p.1.piece.spells ]

stuck_at_name : (text : List ℕ) (k n m : ℕ) → IsPiece text k (Item Ident) n → k + longest_name < n → (IsPiece text k Separator m ⊎ ((t : TokenKind) × IsToken text k t m)) → ⊥
stuck_at_name text k n m p l s = elim s [
  | inl q ↦ (let e = (piece_same text k (Item Ident) Separator n m p q).1 in absurd (cc))
  | inr q ↦ (let e = piece_same text k (Item Ident) (Item q.0) n m p q.1.piece in
      let w = subst (λ t. IsWithin text k t m) (sym (item_same Ident q.0 e.1)) q.1.within in
      let f = e.0 in absurd (omega arith))
]

wide_within : (text : List ℕ) (k n : ℕ) (t : TokenKind) → (t ≡ Decimal) ⊎ (t ≡ Based) → literal_of (slice_range text k n) ≡ None → IsWithin text k t n → ⊥
wide_within text k n t h e w = elim h [
  | inl d ↦ no_some _ e (subst (λ q. IsWithin text k q n) d w)
  | inr d ↦ no_some _ e (subst (λ q. IsWithin text k q n) d w)
]
  where
    no_some : (o : Option Literal) → o ≡ None → IsSome o → ⊥
    no_some o e s = let g = subst (λ q. IsSome q) e s in absurd (cc)

stuck_at_literal : (text : List ℕ) (k n m : ℕ) (kind : TokenKind) → (kind ≡ Decimal) ⊎ (kind ≡ Based) → IsPiece text k (Item kind) n → literal_of (slice_range text k n) ≡ None →
    (IsPiece text k Separator m ⊎ ((t : TokenKind) × IsToken text k t m)) → ⊥
stuck_at_literal text k n m kind h p w s = elim s [
  | inl q ↦ (let e = (piece_same text k (Item kind) Separator n m p q).1 in absurd (cc))
  | inr q ↦ (let e = piece_same text k (Item kind) (Item q.0) n m p q.1.piece in
      let a = subst (λ t. IsWithin text k t m) (sym (item_same kind q.0 e.1)) q.1.within in
      wide_within text k n kind h w (subst (λ x. IsWithin text k kind x) (sym e.0) a))
]

pub stuck_at_fault : (text : List ℕ) (f : LexFault) → IsFaultAt text f → IsStuck text (place f)
stuck_at_fault text (BadByte k) h n l m s = token_spells text k n h.0.2 s
stuck_at_fault text (OpenString k) h n l m s = token_spells text k n h.0.2 s
stuck_at_fault text (OpenComment k) h n l m s = elim s [ inl p ↦ h.1 n p.spells | inr p ↦ (let a = p.1.no_comment in let b = h.0 in absurd (cc)) ]
stuck_at_fault text (NameTooLong k) h n l m s = stuck_at_name text k h.0 n h.1 h.3 s
stuck_at_fault text (LiteralTooWide k) h n l m s = stuck_at_literal text k h.0 n h.1 h.2 h.3 h.5 s
stuck_at_fault text Memory h n l m s = h

pub fault_or_tokens : (text : List ℕ) (f : LexFault) (ts : List Token) → IsLexFault text f → Lexes text ts → ⊥
fault_or_tokens text f ts h g =
    let e = (covers_meet text h.before.0 g.0 0 h.before.1 ts (place f) (length text) (stuck_at_fault text f h.here) (stuck_at_end text) h.before.2 g.1).1 in
    let l = h.inside in absurd (omega arith)

-- one fault at a place

abbrev is_open : LexFault → Bool
is_open (OpenComment k) = true
is_open (BadByte k) = false
is_open (OpenString k) = false
is_open (LiteralTooWide k) = false
is_open (NameTooLong k) = false
is_open Memory = false

fault_opens : (text : List ℕ) (f : LexFault) → IsFaultAt text f → opens_comment text (place f) ≡ is_open f
fault_opens text (BadByte k) h = h.0.1
fault_opens text (OpenString k) h = h.0.1
fault_opens text (OpenComment k) h = h.0
fault_opens text (NameTooLong k) h = h.2
fault_opens text (LiteralTooWide k) h = h.4
fault_opens text Memory h = absurd h

same_opens : (text : List ℕ) (f g : LexFault) → IsFaultAt text f → IsFaultAt text g → place f ≡ place g → is_open f ≡ is_open g
same_opens text f g h k e = sym (fault_opens text f h) ∙ (ap (opens_comment text) e ∙ fault_opens text g k)

nothing_or_piece : (text : List ℕ) (k m n : ℕ) (p : Piece) → IsNothing text k → IsPiece text m p n → k ≡ m → ⊥
nothing_or_piece text k m n p h q e = h.2 p n (subst (λ x. Spells text x p n) (sym e) q.spells)

name_or_literal : (text : List ℕ) (k m a b : ℕ) (kind : TokenKind) → (kind ≡ Decimal) ⊎ (kind ≡ Based) → IsPiece text k (Item Ident) a → IsPiece text m (Item kind) b → k ≡ m → ⊥
name_or_literal text k m a b kind h p q e =
    let s = item_same Ident kind (piece_same text k (Item Ident) (Item kind) a b p (subst (λ x. IsPiece text x (Item kind) b) (sym e) q)).1 in
    elim h [ inl d ↦ absurd (cc) | inr d ↦ absurd (cc) ]

other_byte : (text : List ℕ) (k m : ℕ) → get_or text k 0 ≢ 34 → get_or text m 0 ≡ 34 → k ≡ m → ⊥
other_byte text k m n h e = n (subst (λ x. get_or text x 0 ≡ 34) (sym e) h)

pub same_fault : (text : List ℕ) (f g : LexFault) → IsFaultAt text f → IsFaultAt text g → place f ≡ place g → f ≡ g
same_fault text (BadByte i) (BadByte j) h k e = ap BadByte e
same_fault text (BadByte i) (OpenString j) h k e = absurd (other_byte text i j h.1 k.1 e)
same_fault text (BadByte i) (OpenComment j) h k e = absurd (let o = same_opens text (BadByte i) (OpenComment j) h k e in cc)
same_fault text (BadByte i) (NameTooLong j) h k e = absurd (nothing_or_piece text i j k.0 (Item Ident) h.0 k.1 e)
same_fault text (BadByte i) (LiteralTooWide j) h k e = absurd (nothing_or_piece text i j k.0 (Item k.1) h.0 k.3 e)
same_fault text (OpenString i) (BadByte j) h k e = absurd (other_byte text j i k.1 h.1 (sym e))
same_fault text (OpenString i) (OpenString j) h k e = ap OpenString e
same_fault text (OpenString i) (OpenComment j) h k e = absurd (let o = same_opens text (OpenString i) (OpenComment j) h k e in cc)
same_fault text (OpenString i) (NameTooLong j) h k e = absurd (nothing_or_piece text i j k.0 (Item Ident) h.0 k.1 e)
same_fault text (OpenString i) (LiteralTooWide j) h k e = absurd (nothing_or_piece text i j k.0 (Item k.1) h.0 k.3 e)
same_fault text (OpenComment i) (BadByte j) h k e = absurd (let o = same_opens text (OpenComment i) (BadByte j) h k e in cc)
same_fault text (OpenComment i) (OpenString j) h k e = absurd (let o = same_opens text (OpenComment i) (OpenString j) h k e in cc)
same_fault text (OpenComment i) (OpenComment j) h k e = ap OpenComment e
same_fault text (OpenComment i) (NameTooLong j) h k e = absurd (let o = same_opens text (OpenComment i) (NameTooLong j) h k e in cc)
same_fault text (OpenComment i) (LiteralTooWide j) h k e = absurd (let o = same_opens text (OpenComment i) (LiteralTooWide j) h k e in cc)
same_fault text (NameTooLong i) (BadByte j) h k e = absurd (nothing_or_piece text j i h.0 (Item Ident) k.0 h.1 (sym e))
same_fault text (NameTooLong i) (OpenString j) h k e = absurd (nothing_or_piece text j i h.0 (Item Ident) k.0 h.1 (sym e))
same_fault text (NameTooLong i) (OpenComment j) h k e = absurd (let o = same_opens text (NameTooLong i) (OpenComment j) h k e in cc)
same_fault text (NameTooLong i) (NameTooLong j) h k e = ap NameTooLong e
same_fault text (NameTooLong i) (LiteralTooWide j) h k e = absurd (name_or_literal text i j h.0 k.0 k.1 k.2 h.1 k.3 e)
same_fault text (LiteralTooWide i) (BadByte j) h k e = absurd (nothing_or_piece text j i h.0 (Item h.1) k.0 h.3 (sym e))
same_fault text (LiteralTooWide i) (OpenString j) h k e = absurd (nothing_or_piece text j i h.0 (Item h.1) k.0 h.3 (sym e))
same_fault text (LiteralTooWide i) (OpenComment j) h k e = absurd (let o = same_opens text (LiteralTooWide i) (OpenComment j) h k e in cc)
same_fault text (LiteralTooWide i) (NameTooLong j) h k e = absurd (name_or_literal text j i k.0 h.0 h.1 h.2 k.1 h.3 (sym e))
same_fault text (LiteralTooWide i) (LiteralTooWide j) h k e = ap LiteralTooWide e
same_fault text Memory g h k e = absurd h
same_fault text f Memory h k e = absurd k

pub one_fault : (text : List ℕ) (f g : LexFault) → IsLexFault text f → IsLexFault text g → f ≡ g
one_fault text f g h k = same_fault text f g h.here k.here
    (covers_meet text h.before.0 k.before.0 0 h.before.1 k.before.1 (place f) (place g) (stuck_at_fault text f h.here) (stuck_at_fault text g k.here) h.before.2 k.before.2).1

-- tokens ascend

ascend_from : (i n m : ℕ) (ts : List Token) → i ≤ n → Ascend n ts m → Ascend i ts m
ascend_from i n m [] l h = omega arith
ascend_from i n m (t ∷ ts) l h = ((let a = h.0 in omega arith), h.1, h.2)

pub covers_ascend : (text : List ℕ) (c i : ℕ) (ts : List Token) (j : ℕ) → j ≤ length text → Covers text c i ts j → Ascend i ts (length text)
covers_ascend text zero i ts j l h = subst (λ xs. Ascend i xs (length text)) (sym h.0) (let e = h.1 in omega arith)
covers_ascend text (suc c) i ts j l h = elim h.3 [
  | inl p ↦ ascend_from i h.0 (length text) ts (let a = h.1 in omega arith) (covers_ascend text c h.0 ts j l p.1)
  | inr p ↦ (let r = covers_ascend text c h.0 p.1 j l p.7 in
      let e : h.0 ≡ p.0.«at» + p.0.len = (let a = p.3 in let b = p.4 in omega arith) in
      subst (λ xs. Ascend i xs (length text)) (sym p.2) ((let a = p.3 in omega arith), (let a = h.1 in let b = p.4 in omega arith), subst (λ q. Ascend q p.1 (length text)) e r))
]

-- tokens within their limits
pub covers_within : (text : List ℕ) (c i : ℕ) (ts : List Token) (j : ℕ) → Covers text c i ts j → AllWithin text ts
covers_within text zero i ts j h = subst (λ xs. AllWithin text xs) (sym h.0) tt
covers_within text (suc c) i ts j h = elim h.3 [
  | inl p ↦ covers_within text c h.0 ts j p.1
  | inr p ↦
      (
      let r = covers_within text c h.0 p.1 j p.7 in
      let e : h.0 ≡ p.0.«at» + p.0.len = (let a = p.3 in let b = p.4 in omega arith) in
      let w = subst (λ q. IsWithin text q p.0.kind h.0) (sym p.3) p.5.within in
      subst (λ xs. AllWithin text xs) (sym p.2) (subst (λ q. IsWithin text p.0.«at» p.0.kind q) e w, r)
      )
]

-- tokens keep what they spell
pub covers_spelled : (text : List ℕ) (c i : ℕ) (ts : List Token) (j : ℕ) → Covers text c i ts j → AllSpelled text ts
covers_spelled text zero i ts j h = subst (λ xs. AllSpelled text xs) (sym h.0) tt
covers_spelled text (suc c) i ts j h = elim h.3 [
  | inl p ↦ covers_spelled text c h.0 ts j p.1
  | inr p ↦
      (
      let r = covers_spelled text c h.0 p.1 j p.7 in
      let e : h.0 ≡ p.0.«at» + p.0.len = (let a = p.3 in let b = p.4 in omega arith) in
      let w = subst (λ q. IsSpelled text q p.0.kind h.0 p.0.spelled) (sym p.3) p.6 in
      subst (λ xs. AllSpelled text xs) (sym p.2) (subst (λ q. IsSpelled text p.0.«at» p.0.kind q p.0.spelled) e w, r)
      )
]
