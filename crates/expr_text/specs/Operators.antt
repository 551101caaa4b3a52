-- How operators are spelled (IEEE 1800-2017, 11.3).
use Rattle.std.specs.Prelude.{ℕ, List, codes}
use Rattle.cov_tree.specs.declared.expr.UnOp.{UnOp}
use Rattle.cov_tree.specs.declared.expr.UnOp.TheVariants as unary
use Rattle.cov_tree.specs.declared.expr.BinOp.{BinOp}
use Rattle.cov_tree.specs.declared.expr.BinOp.TheVariants as binary

-- an operator before one operand
abbrev pub unary_text : UnOp → List ℕ
unary_text unary.Plus = codes "+"
unary_text unary.Neg = codes "-"
unary_text unary.Not = codes "~"
unary_text unary.LogNot = codes "!"
unary_text unary.And = codes "&"
unary_text unary.Or = codes "|"
unary_text unary.Xor = codes "^"
unary_text unary.Nand = codes "~&"
unary_text unary.Nor = codes "~|"
unary_text unary.Xnor = codes "~^"

-- an operator between two operands
abbrev pub binary_text : BinOp → List ℕ
binary_text binary.Add = codes "+"
binary_text binary.Sub = codes "-"
binary_text binary.Mul = codes "*"
binary_text binary.Div = codes "/"
binary_text binary.Rem = codes "%"
binary_text binary.And = codes "&"
binary_text binary.Or = codes "|"
binary_text binary.Xor = codes "^"
binary_text binary.Shl = codes "<<"
binary_text binary.Shr = codes ">>"
binary_text binary.Sshl = codes "<<<"
binary_text binary.Sshr = codes ">>>"
binary_text binary.Lt = codes "<"
binary_text binary.Le = codes "<="
binary_text binary.Gt = codes ">"
binary_text binary.Ge = codes ">="
binary_text binary.Eq = codes "=="
binary_text binary.Ne = codes "!="
binary_text binary.LogAnd = codes "&&"
binary_text binary.LogOr = codes "||"
