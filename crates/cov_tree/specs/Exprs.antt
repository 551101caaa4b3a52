-- Expressions and selections, made of their parts.
use Rattle.std.specs.Prelude.{ℕ, List, Option}
use Rattle.cov_tree.specs.declared.literal.Literal.{Literal}
use Rattle.cov_tree.specs.declared.expr.UnOp.{UnOp}
use Rattle.cov_tree.specs.declared.expr.BinOp.{BinOp}
use Rattle.cov_tree.specs.declared.expr.Expr.{Expr}
use Rattle.cov_tree.specs.declared.expr.Expr.TheViews.{roll-Expr}
use Rattle.cov_tree.specs.declared.expr.Expr.TheOpen.{Num, Name, Bit, Part, Concat, Unary, Binary, Cond}
use Rattle.cov_tree.specs.declared.bins.Elem.{Elem}
use Rattle.cov_tree.specs.declared.groups.Sel.{Sel}
use Rattle.cov_tree.specs.declared.groups.Sel.TheViews.{roll-Sel}
use Rattle.cov_tree.specs.declared.groups.Sel.TheOpen.{BinsOf, Not, And, Or}

abbrev pub number : Literal → (at : ℕ) → Expr
number lit at = roll-Expr (Num lit at)

abbrev pub named : (name : List ℕ) (at : ℕ) → Expr
named name at = roll-Expr (Name name at)

abbrev pub bit_select : (name : List ℕ) → (index : Expr) → (at : ℕ) → Expr
bit_select name index at = roll-Expr (Bit name index at)

abbrev pub part_select : (name : List ℕ) → (high low : Expr) → (at : ℕ) → Expr
part_select name high low at = roll-Expr (Part name high low at)

abbrev pub concatenation : (parts : List Expr) → (at : ℕ) → Expr
concatenation parts at = roll-Expr (Concat parts at)

abbrev pub unary : UnOp → Expr → (at : ℕ) → Expr
unary op arg at = roll-Expr (Unary op arg at)

abbrev pub binary : BinOp → (left right : Expr) → (at : ℕ) → Expr
binary op left right at = roll-Expr (Binary op left right at)

abbrev pub choice : (test first second : Expr) → (at : ℕ) → Expr
choice test first second at = roll-Expr (Cond test first second at)

abbrev pub bins_of : (point : List ℕ) → Option (List ℕ) → Option (List Elem) → (at : ℕ) → Sel
bins_of point bin meets at = roll-Sel (BinsOf point bin meets at)

abbrev pub none_of : Sel → Sel
none_of sel = roll-Sel (Not sel)

abbrev pub both_of : Sel → Sel → Sel
both_of left right = roll-Sel (And left right)

abbrev pub either_of : Sel → Sel → Sel
either_of left right = roll-Sel (Or left right)
