-- The design that a text declares, and why it declares none (IEEE 1800-2017, clause 19).
use Rattle.std.specs.Prelude.{◌≡◌, ℕ, List, Result, Ok, Err, ⊤}
use Rattle.cov_tree.specs.declared.declarations.Decl.{Decl}
use Rattle.cov_lexer.specs.declared.token.Token.{Token}
use Rattle.cov_lexer.specs.Lexes.{Lexes, IsLexFault}
use Rattle.cov_lexer.specs.declared.token.LexFault.TheVariants as lexing
use Rattle.cov_grammar.specs.Marking.{marked}
use Rattle.cov_grammar.specs.Fault.{DerivesWithin, limits}
use Rattle.cov_parser.specs.declared.fault.ParseFault.{ParseFault}
use Rattle.cov_parser.specs.declared.fault.ParseFault.TheVariants as parsing
use Rattle.cov_parser.specs.Parse.{IsParseFault}
use Rattle.design_data.specs.declared.design.Design.{Design}
use Rattle.elab_base.specs.declared.fault.ElabKind.{ElabKind}
use Rattle.elab_base.specs.declared.fault.ElabFault.TheVariants as elaborating
use Rattle.cov_design.specs.Elaboration.{Parts, Elaborates, parts_of}
use Rattle.cov_compile.specs.declared.fault.CompileFault.{CompileFault}
use Rattle.cov_compile.specs.declared.fault.CompileFault.TheVariants.{Lex, Parse, Elab}

-- the text is of these tokens, and they derive these declarations
pub record Declares (text : List ℕ) (decls : List Decl) : Type 0 where
  pub tokens : List Token
  pub lexes : Lexes text tokens
  pub derives : DerivesWithin limits text (marked text tokens) decls

-- the text declares the design of these parts
pub record IsDesign (parts : Parts) (text : List ℕ) : Type 0 where
  pub decls : List Decl
  pub declares : Declares text decls
  pub elaborates : Elaborates (record { decls = decls }) ≡ Ok parts

-- the tokens of the text have a fault
pub record IsUnparsed (text : List ℕ) (fault : ParseFault) : Type 0 where
  pub tokens : List Token
  pub lexes : Lexes text tokens
  pub fault_there : IsParseFault text tokens fault

-- the first fault on the walk through the declarations of the text is of this kind and stands there
pub record IsUnelaborated (text : List ℕ) (kind : ElabKind) (at : ℕ) : Type 0 where
  pub decls : List Decl
  pub declares : Declares text decls
  pub refused : Elaborates (record { decls = decls }) ≡ Err (kind, at)

-- Why the text declares no design: the first fault of its tokens, or else of its grammar, or else of its declarations.
-- Want of memory is no fault of the text.
abbrev pub IsDesignFault : List ℕ → CompileFault → Type 0
IsDesignFault text (Lex fault) = IsLexFault text fault
IsDesignFault text (Parse fault) = IsUnparsed text fault
IsDesignFault text (Elab (elaborating.Fault kind at)) = IsUnelaborated text kind at
IsDesignFault text (Elab elaborating.Memory) = ⊥

-- memory ran out
abbrev pub is_memory : CompileFault → Type 0
is_memory (Lex lexing.Memory) = ⊤
is_memory (Lex other) = ⊥
is_memory (Parse parsing.Memory) = ⊤
is_memory (Parse other) = ⊥
is_memory (Elab elaborating.Memory) = ⊤
is_memory (Elab other) = ⊥

-- the design of the text, or its fault, unless memory ran out
abbrev pub Compiles : List ℕ → Result Design CompileFault → Type 0
Compiles text (Ok design) = IsDesign (parts_of design) text
Compiles text (Err fault) = (is_memory fault → ⊥) → IsDesignFault text fault

-- A text has one outcome at most: one design, or one fault.
pub record HasOneOutcome (text : List ℕ) : Type 0 where
  pub one_design : (parts other : Parts) → IsDesign parts text → IsDesign other text → parts ≡ other
  pub one_fault : (fault other : CompileFault) → IsDesignFault text fault → IsDesignFault text other → fault ≡ other
  pub not_both : (parts : Parts) (fault : CompileFault) → IsDesign parts text → IsDesignFault text fault → ⊥
