-- The kinds of the tokens of a text. They tell two uses of `[` apart by its neighbours, so that one token decides everywhere.
use Rattle.std.specs.Prelude.{ℕ, ◌+◌, List, [], ◌∷◌, Bool, false, ◌&&◌, cond, slice_range}
pub use Rattle.cov_lexer.specs.Spellings.{kind_of}
use Rattle.cov_lexer.specs.declared.token.Token.{Token}
use Rattle.cov_lexer.specs.declared.kind.Kind.{Kind}
use Rattle.cov_lexer.specs.declared.kind.Kind.TheVariants.{Ident, Numeral, OpenIndex, OpenParen, OpenSquare, OpenBrace, PlusSign, Minus, Tilde, Bang, Ampersand, Bar, Caret, TildeAnd, TildeOr, TildeCaret}
use Rattle.cov_grammar.specs.declared.marked.Marked.{Marked}
use Rattle.cov_lexer.specs.Kinds.{has}

unfoldable pub alone : List ℕ → Token → Kind
alone text t = kind_of (slice_range text t.«at» (t.«at» + t.len)) t.kind

-- the kinds that an expression can begin with
abbrev pub expr_kinds : List Kind
expr_kinds = PlusSign ∷ Minus ∷ Bang ∷ Tilde ∷ Ampersand ∷ Bar ∷ Caret ∷ TildeAnd ∷ TildeOr ∷ TildeCaret ∷ Numeral ∷ Ident ∷ OpenParen ∷ OpenBrace ∷ []

abbrev pub next_begins : List ℕ → List Token → Bool
next_begins text [] = false
next_begins text (t ∷ ts) = has (alone text t) expr_kinds

-- a `[` opens an index where a name stands before it and behind it what can begin an expression
abbrev pub with_neighbours : Bool → Kind → Bool → Kind
with_neighbours named OpenSquare begins = cond (named && begins) OpenIndex OpenSquare
with_neighbours named kind begins = kind

-- the tokens with their kinds, behind a name or not
abbrev pub marked_from : List ℕ → Bool → List Token → List Marked
marked_from text named [] = []
marked_from text named (t ∷ ts) =
    record { kind = with_neighbours named (alone text t) (next_begins text ts); at = t.«at»; len = t.len } ∷ marked_from text (has (alone text t) (Ident ∷ [])) ts

unfoldable pub marked : List ℕ → List Token → List Marked
marked text tokens = marked_from text false tokens
