-- Widths and signs of expressions (IEEE 1800-2017, 11.6.1 and 11.8.1).
use Rattle.std.specs.Prelude.{ℕ, max, Bool, false, ◌&&◌}
use Rattle.cov_tree.specs.declared.expr.UnOp.{UnOp}
use Rattle.cov_tree.specs.declared.expr.UnOp.TheVariants as unary
use Rattle.cov_tree.specs.declared.expr.BinOp.{BinOp}
use Rattle.cov_tree.specs.declared.expr.BinOp.TheVariants as binary

-- The type of an expression: how many bits it has, and whether they are read in two's complement.
pub record Typ : Type 0 where
  pub width : ℕ
  pub signed : Bool

-- the type of a truth value
abbrev pub one_bit : Typ
one_bit = record { width = 1; signed = false }

-- so many bits without a sign
abbrev pub plain : ℕ → Typ
plain width = record { width = width; signed = false }

-- the greater width, and a sign where both have one
abbrev pub common : Typ → Typ → Typ
common a b = record { width = max a.width b.width; signed = a.signed && b.signed }

-- How an operator between two operands treats them. Of an arithmetic one both take the type of the whole, of a shift
-- the left one alone; those of a comparison take their common type, and those of a logical one stand by themselves.
pub data Kind : Type 0 where
  arithmetic : Kind
  shift : Kind
  comparison : Kind
  logical : Kind

abbrev pub kind_of : BinOp → Kind
kind_of binary.Add = arithmetic
kind_of binary.Sub = arithmetic
kind_of binary.Mul = arithmetic
kind_of binary.Div = arithmetic
kind_of binary.Rem = arithmetic
kind_of binary.And = arithmetic
kind_of binary.Or = arithmetic
kind_of binary.Xor = arithmetic
kind_of binary.Shl = shift
kind_of binary.Shr = shift
kind_of binary.Sshl = shift
kind_of binary.Sshr = shift
kind_of binary.Lt = comparison
kind_of binary.Le = comparison
kind_of binary.Gt = comparison
kind_of binary.Ge = comparison
kind_of binary.Eq = comparison
kind_of binary.Ne = comparison
kind_of binary.LogAnd = logical
kind_of binary.LogOr = logical

-- the type of an operation on operands of these types
abbrev pub typ_by : Kind → (left right : Typ) → Typ
typ_by arithmetic left right = common left right
typ_by shift left right = left
typ_by comparison left right = one_bit
typ_by logical left right = one_bit

-- the type that is handed down to the left operand, where the whole has the type `whole`
abbrev pub left_by : Kind → (whole left right : Typ) → Typ
left_by arithmetic whole left right = whole
left_by shift whole left right = whole
left_by comparison whole left right = common left right
left_by logical whole left right = left

-- the same of the right operand
abbrev pub right_by : Kind → (whole left right : Typ) → Typ
right_by arithmetic whole left right = whole
right_by shift whole left right = right
right_by comparison whole left right = common left right
right_by logical whole left right = right

-- an operator before one operand gives that operand's type, or one bit; its operand takes the type of the whole, or
-- stands by itself
abbrev pub unary_by : {A : Type 0} → UnOp → (whole own : A) → A
unary_by unary.Plus whole own = whole
unary_by unary.Neg whole own = whole
unary_by unary.Not whole own = whole
unary_by unary.LogNot whole own = own
unary_by unary.And whole own = own
unary_by unary.Or whole own = own
unary_by unary.Xor whole own = own
unary_by unary.Nand whole own = own
unary_by unary.Nor whole own = own
unary_by unary.Xnor whole own = own
