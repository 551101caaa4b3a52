-- The rules of a grammar over a list of tokens, by what they derive and how far the tokens begin them.
use Rattle.std.specs.Prelude.{◌≡◌, ℕ, zero, suc, ◌+◌, ◌<◌, List, [], ◌∷◌, Option, Some, None, Bool, true, false, ◌⊎◌, slice_get, slice_range}
use Rattle.cov_lexer.specs.declared.kind.Kind.{Kind}
use Rattle.cov_grammar.specs.declared.marked.Marked.{Marked}
use Rattle.cov_grammar.specs.declared.place.Place.{Place}
use Rattle.cov_lexer.specs.Kinds.{has}

-- derives p t q: the tokens from place p up to place q derive the tree t.
-- begins p n: the tokens from place p up to token n begin the rule (none of them, or all of a derivation, included).
pub record Rule (T : Type 0) : Type 1 where
  pub derives : Place → T → Place → Type 0
  pub begins : Place → ℕ → Type 0

-- the token at i is of one of these kinds
pub record In (ts : List Marked) (i : ℕ) (ks : List Kind) : Type 0 where
  pub token : Marked
  pub stands : slice_get ts i ≡ Some token
  pub of : has token.kind ks ≡ true

-- behind the next token, with so many operators used
abbrev pub after : Place → ℕ → Place
after p n = record { at = p.at + 1; used = n }

-- one token, of one of these kinds
unfoldable pub one : List Marked → List Kind → Rule Marked
one ts ks = record {
  derives = λ p t q. (slice_get ts p.at ≡ Some t) × (has t.kind ks ≡ true) × (q ≡ after p p.used);
  begins = λ p n. (n ≡ p.at) ⊎ ((t : Marked) × (slice_get ts p.at ≡ Some t) × (has t.kind ks ≡ true) × (n ≡ p.at + 1));
}

-- one token of this kind
abbrev pub word : List Marked → Kind → Rule Marked
word ts k = one ts (k ∷ [])

-- one token of this kind, with this text
unfoldable pub same_word : List ℕ → List Marked → Kind → List ℕ → Rule Marked
same_word text ts k spelling = record {
  derives = λ p t q. (slice_get ts p.at ≡ Some t) × (has t.kind (k ∷ []) ≡ true) × (slice_range text t.at (t.at + t.len) ≡ spelling) × (q ≡ after p p.used);
  begins = λ p n. (n ≡ p.at) ⊎ ((t : Marked) × (slice_get ts p.at ≡ Some t) × (has t.kind (k ∷ []) ≡ true) × (slice_range text t.at (t.at + t.len) ≡ spelling) × (n ≡ p.at + 1));
}

-- one operator of these kinds, where fewer than so many are used
unfoldable pub counted : List Marked → (limit : ℕ) → List Kind → Rule Marked
counted ts limit ks = record {
  derives = λ p t q. (slice_get ts p.at ≡ Some t) × (has t.kind ks ≡ true) × (p.used < limit) × (q ≡ after p (p.used + 1));
  begins = λ p n. (n ≡ p.at) ⊎ ((t : Marked) × (slice_get ts p.at ≡ Some t) × (has t.kind ks ≡ true) × (p.used < limit) × (n ≡ p.at + 1));
}

-- A with a count of its own, which nothing outside sees
unfoldable pub afresh : {T : Type 0} → Rule T → Rule T
afresh A = record {
  derives = λ p t q. (n : ℕ) × A.derives (record { at = p.at; used = 0 }) t (record { at = q.at; used = n }) × (q.used ≡ p.used);
  begins = λ p n. A.begins (record { at = p.at; used = 0 }) n;
}

-- no token
unfoldable pub give : {T : Type 0} → T → Rule T
give x = record { derives = λ p t q. (t ≡ x) × (q ≡ p); begins = λ p n. n ≡ p.at }

-- the byte at which the token of a place begins, and 0 behind the last one
abbrev pub offset_of : Option Marked → ℕ
offset_of None = 0
offset_of (Some t) = t.at

abbrev pub offset : List Marked → ℕ → ℕ
offset ts i = offset_of (slice_get ts i)

-- no token: where the text goes on
unfoldable pub here : List Marked → Rule ℕ
here ts = record { derives = λ p t q. (t ≡ offset ts p.at) × (q ≡ p); begins = λ p n. n ≡ p.at }

-- what can't be derived
unfoldable pub never : {T : Type 0} → Rule T
never = record { derives = λ p t q. ⊥; begins = λ p n. n ≡ p.at }

-- A, and then what its tree asks for
unfoldable pub bind : {S T : Type 0} → Rule S → (S → Rule T) → Rule T
bind A B = record {
  derives = λ p t q. (a : _) × (m : Place) × A.derives p a m × (B a).derives m t q;
  begins = λ p n. A.begins p n ⊎ ((a : _) × (m : Place) × A.derives p a m × (B a).begins m n);
}

-- A or B
unfoldable pub either : {T : Type 0} → Rule T → Rule T → Rule T
either A B = record {
  derives = λ p t q. A.derives p t q ⊎ B.derives p t q;
  begins = λ p n. A.begins p n ⊎ B.begins p n;
}

-- A so many times, each tree put to those before it
unfoldable pub times : {S T : Type 0} → (S → T → S) → Rule T → ℕ → S → Rule S
times f A zero acc = give acc
times f A (suc c) acc = bind A (λ x. times f A c (f acc x))

-- A any number of times
unfoldable pub many : {S T : Type 0} → (S → T → S) → Rule T → S → Rule S
many f A acc = record {
  derives = λ p t q. (c : ℕ) × (times f A c acc).derives p t q;
  begins = λ p n. (c : ℕ) × (times f A c acc).begins p n;
}

-- A with its tree changed
unfoldable pub map_to : {S T : Type 0} → (S → T) → Rule S → Rule T
map_to f A = bind A (λ a. give (f a))

-- A and then B, with a tree made of both
unfoldable pub both : {S T U : Type 0} → (S → T → U) → Rule S → Rule T → Rule U
both f A B = bind A (λ a. map_to (f a) B)

-- A and then any number of B
unfoldable pub fold : {S T : Type 0} → (S → T → S) → Rule S → Rule T → Rule S
fold f A B = bind A (λ a. many f B a)

-- A and then B, with the tree of B, and with that of A
abbrev pub ahead : {S T : Type 0} → Rule S → Rule T → Rule T
ahead A B = both (λ _ b. b) A B

abbrev pub behind : {S T : Type 0} → Rule S → Rule T → Rule S
behind A B = both (λ a _. a) A B

infixr 6 ◌▸◌
abbrev pub ◌▸◌ : {S T : Type 0} → Rule S → Rule T → Rule T
A ▸ B = ahead A B

infixr 6 ◌◂◌
abbrev pub ◌◂◌ : {S T : Type 0} → Rule S → Rule T → Rule S
A ◂ B = behind A B

-- A where this holds, and nothing otherwise
abbrev pub allow : {T : Type 0} → Bool → Rule T → Rule T
allow true A = A
allow false A = never

-- nothing, or A
unfoldable pub maybe : {T : Type 0} → Rule T → Rule (Option T)
maybe A = either (give None) (map_to Some A)
