-- Texts whose first tokens are alike, and texts that go on where another ends.
use Rattle.std.specs.Prelude.{◌≡◌, ℕ, ◌+◌, ◌<◌, ◌≤◌, List, ◌++◌, length, take, Some, false, slice_get}
use Rattle.cov_tree.specs.declared.declarations.Decl.{Decl}
use Rattle.cov_lexer.specs.declared.token.TokenKind.{TokenKind}
use Rattle.cov_grammar.specs.declared.marked.Marked.{Marked}
use Rattle.cov_grammar.specs.declared.place.Room.{Room}
use Rattle.cov_lexer.specs.Kinds.{has}
use Rattle.cov_grammar.specs.Expressions.{spelled}
use Rattle.cov_grammar.specs.Bins.{squares}
use Rattle.cov_grammar.specs.Marking.{kind_of}
use Rattle.cov_grammar.specs.Fault.{DerivesWithin}

-- token i of the second text has the kind and the spelling of this token of the first
pub record HasLike (first : List ℕ) (t : Marked) (second : List ℕ) (tokens : List Marked) (i : ℕ) : Type 0 where
  pub token : Marked
  pub stands : slice_get tokens i ≡ Some token
  pub kind : token.kind ≡ t.kind
  pub spelling : spelled second token ≡ spelled first t

-- the first k tokens of two texts have the same kinds and spellings
pub record AreAlike (k : ℕ) (first : List ℕ) (before : List Marked) (second : List ℕ) (after : List Marked) : Type 0 where
  pub like : (i : ℕ) (t : Marked) → i < k → slice_get before i ≡ Some t → HasLike first t second after i

-- each token stands in the text
pub record LieIn (text : List ℕ) (tokens : List Marked) : Type 0 where
  pub inside : (i : ℕ) (t : Marked) → slice_get tokens i ≡ Some t → t.at + t.len ≤ length text

-- the token has the kind that its spelling gives to it alone, whatever stands beside it
pub record IsPlain (text : List ℕ) (t : Marked) : Type 0 where
  pub lexed : TokenKind
  pub kind : kind_of (spelled text t) lexed ≡ t.kind
  pub no_square : has t.kind squares ≡ false

-- the tokens from token k on are plain
pub record ArePlainFrom (k : ℕ) (text : List ℕ) (tokens : List Marked) : Type 0 where
  pub plain : (i : ℕ) (t : Marked) → k ≤ i → slice_get tokens i ≡ Some t → IsPlain text t

-- behind the text more text can stand, and behind the first n tokens plain tokens in it, with which they derive a design
-- in this room
pub record GoesOn (room : Room) (text : List ℕ) (tokens : List Marked) (n : ℕ) : Type 0 where
  pub more : List ℕ
  pub behind : List Marked
  pub decls : List Decl
  pub derives : DerivesWithin room (text ++ more) (take n tokens ++ behind) decls
  pub lie : LieIn (text ++ more) (take n tokens ++ behind)
  pub plain : ArePlainFrom n (text ++ more) (take n tokens ++ behind)
