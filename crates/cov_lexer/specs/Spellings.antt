-- The table of words and operators: what each is to the grammar.
use Rattle.std.specs.Prelude.{ℕ, List, [], ◌∷◌, Bool, true, codes, nat_eq, cond, Option, Some, None, is_some}
use Rattle.std.specs.Cmp.Lexicographic.{pointwise}
use Rattle.cov_lexer.specs.declared.kind.Kind.{Kind}
use Rattle.cov_lexer.specs.declared.kind.Kind.TheVariants.{Ident, Numeral, Quoted, System, NotSupported, OtherWord, TypedefWord, EnumWord, BitWord, LogicWord, RegWord, ByteWord, ShortintWord, IntWord, LongintWord, IntegerWord, SignedWord, UnsignedWord, CovergroupWord, EndgroupWord, CoverpointWord, CrossWord, BinsWord, IllegalBinsWord, IgnoreBinsWord, WildcardWord, IffWord, DefaultWord, SequenceWord, BinsofWord, IntersectWord, WithWord, InputWord, RefWord, NewWord, PosedgeWord, NegedgeWord, EdgeWord, OrWord, OptionWord, TypeOptionWord, OpenParen, CloseParen, OpenSquare, CloseSquare, OpenBrace, CloseBrace, Comma, Semi, Colon, Dot, AtSign, Assign, FatArrow, ThinArrow, PlusSign, Minus, Star, Slash, Percent, Tilde, Bang, Ampersand, AndAnd, Bar, OrOr, Caret, TildeAnd, TildeOr, TildeCaret, Less, LessEqual, Greater, GreaterEqual, EqualEqual, NotEqual, ShiftLeft, ShiftRight, SignedLeft, SignedRight, Question, DollarSign}
use Rattle.cov_lexer.specs.declared.token.TokenKind.{TokenKind}
use Rattle.cov_lexer.specs.declared.token.TokenKind.TheVariants as lexed

-- a text with its kind
pub record Spelling : Type 0 where
  pub text : List ℕ
  pub kind : Kind

abbrev pub is : Kind → List ℕ → Spelling
is kind text = record { text = text; kind = kind }

-- the keywords; those that no rule reads have one kind
unfoldable pub words : List Spelling
words =
    is TypedefWord (codes "typedef")
    ∷ is EnumWord (codes "enum")
    ∷ is BitWord (codes "bit")
    ∷ is LogicWord (codes "logic")
    ∷ is RegWord (codes "reg")
    ∷ is ByteWord (codes "byte")
    ∷ is ShortintWord (codes "shortint")
    ∷ is IntWord (codes "int")
    ∷ is LongintWord (codes "longint")
    ∷ is IntegerWord (codes "integer")
    ∷ is SignedWord (codes "signed")
    ∷ is UnsignedWord (codes "unsigned")
    ∷ is CovergroupWord (codes "covergroup")
    ∷ is EndgroupWord (codes "endgroup")
    ∷ is CoverpointWord (codes "coverpoint")
    ∷ is CrossWord (codes "cross")
    ∷ is BinsWord (codes "bins")
    ∷ is IllegalBinsWord (codes "illegal_bins")
    ∷ is IgnoreBinsWord (codes "ignore_bins")
    ∷ is WildcardWord (codes "wildcard")
    ∷ is IffWord (codes "iff")
    ∷ is DefaultWord (codes "default")
    ∷ is SequenceWord (codes "sequence")
    ∷ is BinsofWord (codes "binsof")
    ∷ is IntersectWord (codes "intersect")
    ∷ is WithWord (codes "with")
    ∷ is InputWord (codes "input")
    ∷ is RefWord (codes "ref")
    ∷ is NewWord (codes "new")
    ∷ is PosedgeWord (codes "posedge")
    ∷ is NegedgeWord (codes "negedge")
    ∷ is EdgeWord (codes "edge")
    ∷ is OrWord (codes "or")
    ∷ is OptionWord (codes "option")
    ∷ is TypeOptionWord (codes "type_option")
    ∷ is OtherWord (codes "class")
    ∷ is OtherWord (codes "extends")
    ∷ is OtherWord (codes "module")
    ∷ is OtherWord (codes "program")
    ∷ is OtherWord (codes "interface")
    ∷ is OtherWord (codes "package")
    ∷ is OtherWord (codes "parameter")
    ∷ is OtherWord (codes "localparam")
    ∷ is OtherWord (codes "real")
    ∷ is OtherWord (codes "shortreal")
    ∷ is OtherWord (codes "string")
    ∷ is OtherWord (codes "time")
    ∷ is OtherWord (codes "inside")
    ∷ is OtherWord (codes "matches")
    ∷ is OtherWord (codes "function")
    ∷ []

-- the operators; those that aren't supported have one kind
unfoldable pub operators : List Spelling
operators =
    is NotSupported (codes "===")
    ∷ is NotSupported (codes "!==")
    ∷ is NotSupported (codes "==?")
    ∷ is NotSupported (codes "!=?")
    ∷ is SignedLeft (codes "<<<")
    ∷ is SignedRight (codes ">>>")
    ∷ is FatArrow (codes "=>")
    ∷ is ThinArrow (codes "->")
    ∷ is AndAnd (codes "&&")
    ∷ is OrOr (codes "||")
    ∷ is TildeAnd (codes "~&")
    ∷ is TildeOr (codes "~|")
    ∷ is TildeCaret (codes "~^")
    ∷ is TildeCaret (codes "^~")
    ∷ is LessEqual (codes "<=")
    ∷ is GreaterEqual (codes ">=")
    ∷ is EqualEqual (codes "==")
    ∷ is NotEqual (codes "!=")
    ∷ is ShiftLeft (codes "<<")
    ∷ is ShiftRight (codes ">>")
    ∷ is NotSupported (codes "@@")
    ∷ is NotSupported (codes "**")
    ∷ is NotSupported (codes "++")
    ∷ is NotSupported (codes "--")
    ∷ is NotSupported (codes "::")
    ∷ is OpenParen (codes "(")
    ∷ is CloseParen (codes ")")
    ∷ is OpenSquare (codes "[")
    ∷ is CloseSquare (codes "]")
    ∷ is OpenBrace (codes "{")
    ∷ is CloseBrace (codes "}")
    ∷ is Comma (codes ",")
    ∷ is Semi (codes ";")
    ∷ is Colon (codes ":")
    ∷ is Dot (codes ".")
    ∷ is AtSign (codes "@")
    ∷ is Assign (codes "=")
    ∷ is PlusSign (codes "+")
    ∷ is Minus (codes "-")
    ∷ is Star (codes "*")
    ∷ is Slash (codes "/")
    ∷ is Percent (codes "%")
    ∷ is Tilde (codes "~")
    ∷ is Bang (codes "!")
    ∷ is Ampersand (codes "&")
    ∷ is Bar (codes "|")
    ∷ is Caret (codes "^")
    ∷ is Less (codes "<")
    ∷ is Greater (codes ">")
    ∷ is Question (codes "?")
    ∷ is DollarSign (codes "$")
    ∷ is NotSupported (codes "#")
    ∷ is NotSupported (codes "'")
    ∷ []

-- the kind of this text by the first entry that has it
abbrev pub kind_among : List ℕ → List Spelling → Option Kind
kind_among text [] = None
kind_among text (s ∷ ss) = cond (pointwise nat_eq s.text text) (Some s.kind) (kind_among text ss)

unfoldable pub is_keyword : List ℕ → Bool
is_keyword text = is_some (kind_among text words)

-- the kind, and that of a word which no rule reads where no entry has the text
abbrev pub or_other : Option Kind → Kind
or_other None = OtherWord
or_other (Some kind) = kind

-- the kind of a token by itself
abbrev pub kind_of : List ℕ → TokenKind → Kind
kind_of text lexed.Ident = Ident
kind_of text lexed.Keyword = or_other (kind_among text words)
kind_of text lexed.System = System
kind_of text lexed.Decimal = Numeral
kind_of text lexed.Based = Numeral
kind_of text lexed.Text = Quoted
kind_of text lexed.Operator = or_other (kind_among text operators)
kind_of text lexed.NotSupported = NotSupported

-- whether the text begins with this byte, as each text that is found by it does; the empty text is left in
abbrev pub begins_with : ℕ → List ℕ → Bool
begins_with b [] = true
begins_with b (x ∷ xs) = nat_eq x b

-- those that begin with this byte, in their order
abbrev pub starting : ℕ → List Spelling → List Spelling
starting b [] = []
starting b (s ∷ ss) = cond (begins_with b s.text) (s ∷ starting b ss) (starting b ss)
