-- Expressions with each name replaced by its meaning, and their types (IEEE 1800-2017, 11.6.1 and 11.8.1).
use Rattle.std.specs.Prelude.{ℕ, ◌+◌, Option, Some}
use Rattle.cov_tree.specs.declared.expr.UnOp.{UnOp}
use Rattle.cov_tree.specs.declared.expr.BinOp.{BinOp}
use Rattle.const_eval.specs.Typs.{Typ}
use Rattle.const_eval.specs.declared.meaning.Meaning.{Meaning}
use Rattle.const_eval.specs.declared.meaning.Meaning.TheVariants.{Signal, Const}
use Rattle.const_eval.specs.Typs.{one_bit, plain, common, kind_of, typ_by, unary_by}

-- `part` is `width` bits of a name's value from bit `skip` on, the lowest being bit 0. A concatenation is `alone` of its
-- first part, with each further part `joined` at the right.
pub data Term : Type 0 where
  number : (bits : ℕ) → Typ → Term
  name : Meaning → (at : ℕ) → Term
  part : Meaning → (skip width at : ℕ) → Term
  alone : Term → Term
  joined : (front last : Term) → Term
  unary : UnOp → Term → Term
  binary : BinOp → (left right : Term) → Term
  choice : (test first second : Term) → Term

-- the index of the signal that `item` stands for in a `with` (19.5.1.1)
abbrev pub item_index : ℕ
item_index = 65535

abbrev pub typ_in : Meaning → Typ
typ_in (Signal index typ low) = typ
typ_in (Const value typ low) = typ

-- the low end of the span of which bits can be selected
abbrev pub low_in : Meaning → Option ℕ
low_in (Signal index typ low) = Some low
low_in (Const value typ low) = low

abbrev pub typ_of : Term → Typ
typ_of (number bits typ) = typ
typ_of (name meaning at) = typ_in meaning
typ_of (part meaning skip width at) = plain width
typ_of (alone term) = plain (typ_of term).width
typ_of (joined front last) = plain ((typ_of front).width + (typ_of last).width)
typ_of (unary op term) = unary_by op (typ_of term) one_bit
typ_of (binary op left right) = typ_by (kind_of op) (typ_of left) (typ_of right)
typ_of (choice test first second) = common (typ_of first) (typ_of second)
