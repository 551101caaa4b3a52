-- The kinds of tokens, by number, and sets of them as lists.
use Rattle.std.specs.Prelude.{ℕ, List, [], ◌∷◌, Bool, false, ◌||◌, eqb}
use Rattle.cov_lexer.specs.declared.kind.Kind.{Kind}
use Rattle.cov_lexer.specs.declared.kind.Kind.TheVariants.{Ident, Numeral, Quoted, System, NotSupported, OtherWord, TypedefWord, EnumWord, BitWord, LogicWord, RegWord, ByteWord, ShortintWord, IntWord, LongintWord, IntegerWord, SignedWord, UnsignedWord, CovergroupWord, EndgroupWord, CoverpointWord, CrossWord, BinsWord, IllegalBinsWord, IgnoreBinsWord, WildcardWord, IffWord, DefaultWord, SequenceWord, BinsofWord, IntersectWord, WithWord, InputWord, RefWord, NewWord, PosedgeWord, NegedgeWord, EdgeWord, OrWord, OptionWord, TypeOptionWord, OpenParen, CloseParen, OpenIndex, OpenSquare, CloseSquare, OpenBrace, CloseBrace, Comma, Semi, Colon, Dot, AtSign, Assign, FatArrow, ThinArrow, PlusSign, Minus, Star, Slash, Percent, Tilde, Bang, Ampersand, AndAnd, Bar, OrOr, Caret, TildeAnd, TildeOr, TildeCaret, Less, LessEqual, Greater, GreaterEqual, EqualEqual, NotEqual, ShiftLeft, ShiftRight, SignedLeft, SignedRight, Question, DollarSign}

-- the place of a kind in the list of kinds
abbrev pub code : Kind → ℕ
code Ident = 0
code Numeral = 1
code Quoted = 2
code System = 3
code NotSupported = 4
code OtherWord = 5
code TypedefWord = 6
code EnumWord = 7
code BitWord = 8
code LogicWord = 9
code RegWord = 10
code ByteWord = 11
code ShortintWord = 12
code IntWord = 13
code LongintWord = 14
code IntegerWord = 15
code SignedWord = 16
code UnsignedWord = 17
code CovergroupWord = 18
code EndgroupWord = 19
code CoverpointWord = 20
code CrossWord = 21
code BinsWord = 22
code IllegalBinsWord = 23
code IgnoreBinsWord = 24
code WildcardWord = 25
code IffWord = 26
code DefaultWord = 27
code SequenceWord = 28
code BinsofWord = 29
code IntersectWord = 30
code WithWord = 31
code InputWord = 32
code RefWord = 33
code NewWord = 34
code PosedgeWord = 35
code NegedgeWord = 36
code EdgeWord = 37
code OrWord = 38
code OptionWord = 39
code TypeOptionWord = 40
code OpenParen = 41
code CloseParen = 42
code OpenIndex = 43
code OpenSquare = 44
code CloseSquare = 45
code OpenBrace = 46
code CloseBrace = 47
code Comma = 48
code Semi = 49
code Colon = 50
code Dot = 51
code AtSign = 52
code Assign = 53
code FatArrow = 54
code ThinArrow = 55
code PlusSign = 56
code Minus = 57
code Star = 58
code Slash = 59
code Percent = 60
code Tilde = 61
code Bang = 62
code Ampersand = 63
code AndAnd = 64
code Bar = 65
code OrOr = 66
code Caret = 67
code TildeAnd = 68
code TildeOr = 69
code TildeCaret = 70
code Less = 71
code LessEqual = 72
code Greater = 73
code GreaterEqual = 74
code EqualEqual = 75
code NotEqual = 76
code ShiftLeft = 77
code ShiftRight = 78
code SignedLeft = 79
code SignedRight = 80
code Question = 81
code DollarSign = 82

-- whether the kind of this code is one of these
abbrev pub has_code : ℕ → List Kind → Bool
has_code n [] = false
has_code n (k ∷ ks) = eqb n (code k) || has_code n ks

abbrev pub has : Kind → List Kind → Bool
has k ks = has_code (code k) ks
