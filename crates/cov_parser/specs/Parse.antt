-- Why tokens have no syntax tree.
use Rattle.std.specs.Prelude.{◌≡◌, ℕ, List, Option, Some, None, length, true, false, slice_get}
use Rattle.cov_lexer.specs.declared.token.Token.{Token}
use Rattle.cov_grammar.specs.declared.marked.Marked.{Marked}
use Rattle.cov_grammar.specs.Marking.{marked}
use Rattle.cov_grammar.specs.Fault.{IsSyntaxFault, IsTooDeepAt, is_foreign, limits}
use Rattle.cov_parser.specs.declared.fault.ParseFault.{ParseFault}
use Rattle.cov_parser.specs.declared.fault.ParseFault.TheVariants.{Syntax, NotSupported, TooDeep, Memory}

abbrev pub begin_of : List ℕ → Option Marked → ℕ
begin_of text None = length text
begin_of text (Some t) = t.at

-- the byte at which token k begins, or the text's length where there is none
abbrev pub place_of : List ℕ → List Marked → ℕ → ℕ
place_of text ts k = begin_of text (slice_get ts k)

-- what the fault tells is so, at the byte at which its token begins
abbrev pub IsParseFault : List ℕ → List Token → ParseFault → Type 0
IsParseFault text tokens (Syntax at) = (k : ℕ) × IsSyntaxFault limits text (marked text tokens) k × (is_foreign (marked text tokens) k ≡ false) × (at ≡ place_of text (marked text tokens) k)
IsParseFault text tokens (NotSupported at) = (k : ℕ) × IsSyntaxFault limits text (marked text tokens) k × (is_foreign (marked text tokens) k ≡ true) × (at ≡ place_of text (marked text tokens) k)
IsParseFault text tokens (TooDeep at) = (k : ℕ) × IsTooDeepAt limits text (marked text tokens) k × (at ≡ place_of text (marked text tokens) k)
IsParseFault text tokens Memory = ⊥
