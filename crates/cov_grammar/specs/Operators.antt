-- The operators of expressions: which kinds they are, and how strongly they bind (IEEE 1800-2017, 11.3.2).
use Rattle.std.specs.Prelude.{ℕ, zero, suc, List, [], ◌∷◌}
use Rattle.cov_tree.specs.declared.expr.UnOp.{UnOp}
use Rattle.cov_tree.specs.declared.expr.BinOp.{BinOp}
use Rattle.cov_tree.specs.declared.expr.UnOp.TheVariants as unary
use Rattle.cov_tree.specs.declared.expr.BinOp.TheVariants as binary
use Rattle.cov_lexer.specs.declared.kind.Kind.{Kind}
use Rattle.cov_lexer.specs.declared.kind.Kind.TheVariants.{PlusSign, Minus, Star, Slash, Percent, Tilde, Bang, Ampersand, AndAnd, Bar, OrOr, Caret, TildeAnd, TildeOr, TildeCaret, Less, LessEqual, Greater, GreaterEqual, EqualEqual, NotEqual, ShiftLeft, ShiftRight, SignedLeft, SignedRight}

-- the operators before one operand
abbrev pub unary_kinds : List Kind
unary_kinds = PlusSign ∷ Minus ∷ Bang ∷ Tilde ∷ Ampersand ∷ Bar ∷ Caret ∷ TildeAnd ∷ TildeOr ∷ TildeCaret ∷ []

abbrev pub unary_of : Kind → UnOp
unary_of PlusSign = unary.Plus
unary_of Minus = unary.Neg
unary_of Bang = unary.LogNot
unary_of Tilde = unary.Not
unary_of Ampersand = unary.And
unary_of Bar = unary.Or
unary_of Caret = unary.Xor
unary_of TildeAnd = unary.Nand
unary_of TildeOr = unary.Nor
unary_of _ = unary.Xnor

-- the operators between two operands, by levels: the strongest have level 0, and there are ten
abbrev pub level_kinds : ℕ → List Kind
level_kinds zero = Star ∷ Slash ∷ Percent ∷ []
level_kinds (suc zero) = PlusSign ∷ Minus ∷ []
level_kinds (suc (suc zero)) = ShiftLeft ∷ ShiftRight ∷ SignedLeft ∷ SignedRight ∷ []
level_kinds (suc (suc (suc zero))) = Less ∷ LessEqual ∷ Greater ∷ GreaterEqual ∷ []
level_kinds (suc (suc (suc (suc zero)))) = EqualEqual ∷ NotEqual ∷ []
level_kinds (suc (suc (suc (suc (suc zero))))) = Ampersand ∷ []
level_kinds (suc (suc (suc (suc (suc (suc zero)))))) = Caret ∷ []
level_kinds (suc (suc (suc (suc (suc (suc (suc zero))))))) = Bar ∷ []
level_kinds (suc (suc (suc (suc (suc (suc (suc (suc zero)))))))) = AndAnd ∷ []
level_kinds (suc (suc (suc (suc (suc (suc (suc (suc (suc zero))))))))) = OrOr ∷ []
level_kinds (suc (suc (suc (suc (suc (suc (suc (suc (suc (suc n)))))))))) = []

abbrev pub binary_of : Kind → BinOp
binary_of Star = binary.Mul
binary_of Slash = binary.Div
binary_of Percent = binary.Rem
binary_of PlusSign = binary.Add
binary_of Minus = binary.Sub
binary_of ShiftLeft = binary.Shl
binary_of ShiftRight = binary.Shr
binary_of SignedLeft = binary.Sshl
binary_of SignedRight = binary.Sshr
binary_of Less = binary.Lt
binary_of LessEqual = binary.Le
binary_of Greater = binary.Gt
binary_of GreaterEqual = binary.Ge
binary_of EqualEqual = binary.Eq
binary_of NotEqual = binary.Ne
binary_of Ampersand = binary.And
binary_of Caret = binary.Xor
binary_of Bar = binary.Or
binary_of AndAnd = binary.LogAnd
binary_of _ = binary.LogOr
