-- The same of the tokens of a text before they are marked.
use Rattle.std.specs.Prelude.{Bool, ◌≡◌, ◌⊎◌, ℕ, zero, suc, [], ◌∷◌, ◌+◌, ◌<◌, ◌≤◌, List, ◌++◌, length, take, drop, Some, false, slice_get, slice_range}
use Rattle.cov_tree.specs.declared.declarations.Decl.{Decl}
use Rattle.cov_lexer.specs.declared.token.Token.{Token}
use Rattle.cov_lexer.specs.declared.kind.Kind.TheVariants.{Ident}
use Rattle.cov_grammar.specs.declared.place.Room.{Room}
use Rattle.cov_lexer.specs.Kinds.{has}
use Rattle.cov_grammar.specs.Bins.{squares}
use Rattle.cov_grammar.specs.Marking.{alone, next_begins, marked}
use Rattle.cov_grammar.specs.Fault.{DerivesWithin}

abbrev pub word_of : List ℕ → Token → List ℕ
word_of text t = slice_range text t.«at» (t.«at» + t.len)

-- token i of the second text has the kind and the spelling of this token of the first
pub record IsSpelledLike (first : List ℕ) (t : Token) (second : List ℕ) (tokens : List Token) (i : ℕ) : Type 0 where
  pub token : Token
  pub stands : slice_get tokens i ≡ Some token
  pub kind : token.kind ≡ t.kind
  pub spelling : word_of second token ≡ word_of first t

-- the first text has k tokens at least, and the first k of the second have the same kinds and spellings
pub record AreSpelledAlike (k : ℕ) (first : List ℕ) (before : List Token) (second : List ℕ) (after : List Token) : Type 0 where
  pub many : k ≤ length before
  pub like : (i : ℕ) (t : Token) → i < k → slice_get before i ≡ Some t → IsSpelledLike first t second after i

-- whether a name stands before token i
abbrev pub follows_name : List ℕ → Bool → List Token → ℕ → Bool
follows_name text named [] i = named
follows_name text named (t ∷ ts) zero = named
follows_name text named (t ∷ ts) (suc i) = follows_name text (has (alone text t) (Ident ∷ [])) ts i

-- the last of the first k tokens is no `[` behind a name, so its mark is the same whatever stands behind it
pub record EndsAlone (k : ℕ) (text : List ℕ) (tokens : List Token) : Type 0 where
  pub other : (i : ℕ) (t : Token) → i + 1 ≡ k → slice_get tokens i ≡ Some t → (has (alone text t) squares ≡ false) ⊎ (follows_name text false tokens i ≡ false)

-- what stands behind the first k tokens of both texts can begin an expression in both, or in none
pub record GoOnAlike (k : ℕ) (first : List ℕ) (before : List Token) (second : List ℕ) (after : List Token) : Type 0 where
  pub next : next_begins first (drop k before) ≡ next_begins second (drop k after)

-- each of the first k tokens stands in the text
pub record StandIn (k : ℕ) (text : List ℕ) (tokens : List Token) : Type 0 where
  pub inside : (i : ℕ) (t : Token) → i < k → slice_get tokens i ≡ Some t → t.«at» + t.len ≤ length text

-- behind the text more text can stand, and behind its first k tokens more tokens, with which they are a design in this
-- room, as they are marked in the longer text
pub record LeadsOn (room : Room) (text : List ℕ) (tokens : List Token) (k : ℕ) : Type 0 where
  pub more : List ℕ
  pub behind : List Token
  pub decls : List Decl
  pub derives : DerivesWithin room (text ++ more) (marked (text ++ more) (take k tokens ++ behind)) decls
