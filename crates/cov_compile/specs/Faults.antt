-- What the fault of a design text is told by: the word of its kind, and the byte at which it stands.
use Rattle.std.specs.Prelude.{ℕ, List, codes}
use Rattle.cov_lexer.specs.declared.token.LexFault.{LexFault}
use Rattle.cov_lexer.specs.declared.token.LexFault.TheVariants as lexing
use Rattle.cov_parser.specs.declared.fault.ParseFault.{ParseFault}
use Rattle.cov_parser.specs.declared.fault.ParseFault.TheVariants as parsing
use Rattle.elab_base.specs.declared.fault.ElabFault.TheVariants as elaborating
use Rattle.elab_base.specs.declared.fault.ElabKind.{ElabKind}
use Rattle.elab_base.specs.declared.fault.ElabKind.TheVariants as kinds
use Rattle.cov_compile.specs.declared.fault.CompileFault.{CompileFault}
use Rattle.cov_compile.specs.declared.fault.CompileFault.TheVariants.{Lex, Parse, Elab}

-- the word of a kind of faults on the walk through a design
abbrev pub elab_word : ElabKind → List ℕ
elab_word kinds.DuplicateName = codes "DuplicateName"
elab_word kinds.UnknownType = codes "UnknownType"
elab_word kinds.UnknownName = codes "UnknownName"
elab_word kinds.TooWide = codes "TooWide"
elab_word kinds.BadSelect = codes "BadSelect"
elab_word kinds.BadConcat = codes "BadConcat"
elab_word kinds.UnknownLiteral = codes "UnknownLiteral"
elab_word kinds.BadWildcard = codes "BadWildcard"
elab_word kinds.NotConstant = codes "NotConstant"
elab_word kinds.BadEnum = codes "BadEnum"
elab_word kinds.ArgCount = codes "ArgCount"
elab_word kinds.TooManyArgs = codes "TooManyArgs"
elab_word kinds.RefNotVariable = codes "RefNotVariable"
elab_word kinds.NotThisPoint = codes "NotThisPoint"
elab_word kinds.IgnoreDefault = codes "IgnoreDefault"
elab_word kinds.ZeroBins = codes "ZeroBins"
elab_word kinds.BadRepeat = codes "BadRepeat"
elab_word kinds.Unbounded = codes "Unbounded"
elab_word kinds.TooManyValues = codes "TooManyValues"
elab_word kinds.TooManyRanges = codes "TooManyRanges"
elab_word kinds.TooLong = codes "TooLong"
elab_word kinds.TooManyBins = codes "TooManyBins"
elab_word kinds.UnknownPoint = codes "UnknownPoint"
elab_word kinds.NotCrossed = codes "NotCrossed"
elab_word kinds.UnknownBin = codes "UnknownBin"
elab_word kinds.TooManyPoints = codes "TooManyPoints"
elab_word kinds.TooManyProducts = codes "TooManyProducts"
elab_word kinds.UnknownOption = codes "UnknownOption"
elab_word kinds.WrongLevel = codes "WrongLevel"
elab_word kinds.OutOfRange = codes "OutOfRange"
elab_word kinds.SetTwice = codes "SetTwice"
elab_word kinds.DesignLimit = codes "DesignLimit"

-- the word of a fault's kind
abbrev pub fault_word : CompileFault → List ℕ
fault_word (Lex (lexing.BadByte at)) = codes "BadByte"
fault_word (Lex (lexing.OpenComment at)) = codes "OpenComment"
fault_word (Lex (lexing.OpenString at)) = codes "OpenString"
fault_word (Lex (lexing.LiteralTooWide at)) = codes "LiteralTooWide"
fault_word (Lex (lexing.NameTooLong at)) = codes "NameTooLong"
fault_word (Lex lexing.Memory) = codes "Memory"
fault_word (Parse (parsing.Syntax at)) = codes "Syntax"
fault_word (Parse (parsing.NotSupported at)) = codes "NotSupported"
fault_word (Parse (parsing.TooDeep at)) = codes "TooDeep"
fault_word (Parse parsing.Memory) = codes "Memory"
fault_word (Elab (elaborating.Fault kind at)) = elab_word kind
fault_word (Elab elaborating.Memory) = codes "Memory"

-- the byte of the text at which it stands
abbrev pub fault_place : CompileFault → ℕ
fault_place (Lex (lexing.BadByte at)) = at
fault_place (Lex (lexing.OpenComment at)) = at
fault_place (Lex (lexing.OpenString at)) = at
fault_place (Lex (lexing.LiteralTooWide at)) = at
fault_place (Lex (lexing.NameTooLong at)) = at
fault_place (Lex lexing.Memory) = 0
fault_place (Parse (parsing.Syntax at)) = at
fault_place (Parse (parsing.NotSupported at)) = at
fault_place (Parse (parsing.TooDeep at)) = at
fault_place (Parse parsing.Memory) = 0
fault_place (Elab (elaborating.Fault kind at)) = at
fault_place (Elab elaborating.Memory) = 0
