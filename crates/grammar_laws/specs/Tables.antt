-- What the kinds mean that a rule can read where it asks for a meaning, and none for the other kinds.
use Rattle.std.specs.Prelude.{List, [], ◌∷◌, Option, Some, None}
use Rattle.cov_tree.specs.declared.expr.Expr.{Expr}
use Rattle.cov_tree.specs.declared.expr.UnOp.{UnOp}
use Rattle.cov_tree.specs.declared.expr.BinOp.{BinOp}
use Rattle.cov_tree.specs.declared.expr.UnOp.TheVariants as unary
use Rattle.cov_tree.specs.declared.expr.BinOp.TheVariants as binary
use Rattle.cov_tree.specs.declared.bins.Times.{Times}
use Rattle.cov_tree.specs.declared.bins.Times.TheVariants.{Consec, Goto, NonConsec}
use Rattle.cov_tree.specs.declared.bins.Word.{Word}
use Rattle.cov_tree.specs.declared.bins.Word.TheVariants.{Bins, Illegal, Ignore}
use Rattle.cov_tree.specs.declared.groups.EdgeKind.{EdgeKind}
use Rattle.cov_tree.specs.declared.groups.EdgeKind.TheVariants.{Pos, Negative, Both}
use Rattle.cov_lexer.specs.declared.kind.Kind.{Kind}
use Rattle.cov_lexer.specs.declared.kind.Kind.TheVariants.{PlusSign, Minus, Star, Slash, Percent, Tilde, Bang, Ampersand, AndAnd, Bar, OrOr, Caret, TildeAnd, TildeOr, TildeCaret, Less, LessEqual, Greater, GreaterEqual, EqualEqual, NotEqual, ShiftLeft, ShiftRight, SignedLeft, SignedRight, ThinArrow, Assign, BinsWord, IllegalBinsWord, IgnoreBinsWord, ByteWord, ShortintWord, IntWord, LongintWord, IntegerWord, PosedgeWord, NegedgeWord, EdgeWord}
use Rattle.cov_tree.specs.declared.declarations.FixedWidth.{FixedWidth}
use Rattle.cov_tree.specs.declared.declarations.FixedWidth.TheVariants.{Bits8, Bits16, Bits32, Bits64}

-- operators before one operand (11.3.2)
abbrev pub unary_at : Kind → Option UnOp
unary_at PlusSign = Some unary.Plus
unary_at Minus = Some unary.Neg
unary_at Bang = Some unary.LogNot
unary_at Tilde = Some unary.Not
unary_at Ampersand = Some unary.And
unary_at Bar = Some unary.Or
unary_at Caret = Some unary.Xor
unary_at TildeAnd = Some unary.Nand
unary_at TildeOr = Some unary.Nor
unary_at TildeCaret = Some unary.Xnor
unary_at _ = None

-- operators between two operands (11.3.2)
abbrev pub binary_at : Kind → Option BinOp
binary_at Star = Some binary.Mul
binary_at Slash = Some binary.Div
binary_at Percent = Some binary.Rem
binary_at PlusSign = Some binary.Add
binary_at Minus = Some binary.Sub
binary_at ShiftLeft = Some binary.Shl
binary_at ShiftRight = Some binary.Shr
binary_at SignedLeft = Some binary.Sshl
binary_at SignedRight = Some binary.Sshr
binary_at Less = Some binary.Lt
binary_at LessEqual = Some binary.Le
binary_at Greater = Some binary.Gt
binary_at GreaterEqual = Some binary.Ge
binary_at EqualEqual = Some binary.Eq
binary_at NotEqual = Some binary.Ne
binary_at Ampersand = Some binary.And
binary_at Caret = Some binary.Xor
binary_at Bar = Some binary.Or
binary_at AndAnd = Some binary.LogAnd
binary_at OrOr = Some binary.LogOr
binary_at _ = None

-- repetitions of a step (19.5.2)
abbrev pub times_at : Kind → Expr → Expr → Option Times
times_at Star low high = Some (Consec low high)
times_at ThinArrow low high = Some (Goto low high)
times_at Assign low high = Some (NonConsec low high)
times_at _ low high = None

-- the words before bins (19.5)
abbrev pub bins_word_at : Kind → Option Word
bins_word_at BinsWord = Some Bins
bins_word_at IllegalBinsWord = Some Illegal
bins_word_at IgnoreBinsWord = Some Ignore
bins_word_at _ = None

-- the types of one width (6.11)
abbrev pub width_at : Kind → Option FixedWidth
width_at ByteWord = Some Bits8
width_at ShortintWord = Some Bits16
width_at IntWord = Some Bits32
width_at LongintWord = Some Bits64
width_at IntegerWord = Some Bits32
width_at _ = None

-- the words before a signal of an event (9.4.2)
abbrev pub edge_at : Kind → Option EdgeKind
edge_at PosedgeWord = Some Pos
edge_at NegedgeWord = Some Negative
edge_at EdgeWord = Some Both
edge_at _ = None

abbrev pub repetition_kinds : List Kind
repetition_kinds = Star ∷ ThinArrow ∷ Assign ∷ []

abbrev pub edge_kinds : List Kind
edge_kinds = PosedgeWord ∷ NegedgeWord ∷ EdgeWord ∷ []
