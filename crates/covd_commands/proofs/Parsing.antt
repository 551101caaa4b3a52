-- From the answers of tokens, tree and design to that of compiling.
use Rattle.std.proofs.Common.{◌≢◌, ℕ, List}
use Rattle.std.specs.Prelude.{Err}
use Rattle.cov_tree.specs.declared.declarations.Decl.{Decl}
use Rattle.cov_lexer.specs.declared.token.Token.{Token}
use Rattle.cov_lexer.specs.declared.token.LexFault.{LexFault}
use Rattle.cov_lexer.specs.declared.token.LexFault.TheVariants as lexing
use Rattle.cov_lexer.specs.Lexes.{Lexes, IsLexFault}
use Rattle.cov_grammar.specs.Marking.{marked}
use Rattle.cov_grammar.specs.Fault.{DerivesWithin, limits}
use Rattle.cov_parser.specs.declared.fault.ParseFault.{ParseFault}
use Rattle.cov_parser.specs.declared.fault.ParseFault.TheVariants as parsing
use Rattle.cov_parser.specs.Parse.{IsParseFault}
use Rattle.elab_base.specs.declared.fault.ElabFault.{ElabFault}
use Rattle.elab_base.specs.declared.fault.ElabFault.TheVariants as elaborating
use Rattle.cov_compile.specs.Elaboration.{Elaborates, GivesDesign}
use Rattle.cov_compile.specs.declared.fault.CompileFault.TheVariants.{Lex, Parse, Elab}
use Rattle.cov_compile.specs.Compiling.{Compiles}

pub unlexed : (text : List ℕ) (fault : LexFault) → (fault ≢ lexing.Memory → IsLexFault text fault) → Compiles text (Err (Lex fault))
unlexed text lexing.Memory h = λ some. absurd (some tt)
unlexed text (lexing.BadByte at) h = λ some. h (λ e. absurd cc)
unlexed text (lexing.OpenComment at) h = λ some. h (λ e. absurd cc)
unlexed text (lexing.OpenString at) h = λ some. h (λ e. absurd cc)
unlexed text (lexing.LiteralTooWide at) h = λ some. h (λ e. absurd cc)
unlexed text (lexing.NameTooLong at) h = λ some. h (λ e. absurd cc)

module _ (text : List ℕ) (tokens : List Token) (lexes : Lexes text tokens) where
  pub unparsed : (fault : ParseFault) → (fault ≢ parsing.Memory → IsParseFault text tokens fault) → Compiles text (Err (Parse fault))
  unparsed parsing.Memory h = λ some. absurd (some tt)
  unparsed (parsing.Syntax at) h = λ some. record { tokens = tokens; lexes = lexes; fault_there = h (λ e. absurd cc) }
  unparsed (parsing.NotSupported at) h = λ some. record { tokens = tokens; lexes = lexes; fault_there = h (λ e. absurd cc) }
  unparsed (parsing.TooDeep at) h = λ some. record { tokens = tokens; lexes = lexes; fault_there = h (λ e. absurd cc) }

  module _ (decls : List Decl) (derives : DerivesWithin limits text (marked text tokens) decls) where
    pub unelaborated : (fault : ElabFault) → GivesDesign (Err fault) (Elaborates (record { decls = decls })) → Compiles text (Err (Elab fault))
    unelaborated elaborating.Memory h = λ some. absurd (some tt)
    unelaborated (elaborating.Fault kind at) h = λ some. record { decls = decls; declares = record { tokens = tokens; lexes = lexes; derives = derives }; refused = h }
