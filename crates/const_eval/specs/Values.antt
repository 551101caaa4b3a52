-- Values of expressions (IEEE 1800-2017, clause 11): whole numbers, or none where a value is unknown.
use Rattle.std.specs.Prelude.{ℕ, ◌+◌, ◌-◌, ◌*◌, ◌/◌, ◌%◌, ◌^◌, nat_eq, ℤ, pos, negsuc, ◌+ℤ◌, ◌-ℤ◌, ◌*ℤ◌, ◌≤ℤ◌, neg_ℤ, int_lt, int_le, int_div, int_rem, bit_and, bit_or, bit_xor, count_ones, Bool, true, false, not, ◌||◌, if◌then◌else◌, List, Option, Some, None, slice_index_or}
use Rattle.std.specs.Int.{int_shr}
use Rattle.bin_spec.specs.Types.{lowest, highest, number_of}
use Rattle.cov_tree.specs.declared.expr.UnOp.{UnOp}
use Rattle.cov_tree.specs.declared.expr.UnOp.TheVariants as unary
use Rattle.cov_tree.specs.declared.expr.BinOp.{BinOp}
use Rattle.cov_tree.specs.declared.expr.BinOp.TheVariants as binary
use Rattle.const_eval.specs.Typs.{Typ}
use Rattle.const_eval.specs.declared.meaning.Meaning.{Meaning}
use Rattle.const_eval.specs.declared.meaning.Meaning.TheVariants.{Signal, Const}
use Rattle.const_eval.specs.Typs.{kind_of, left_by, right_by, unary_by}
use Rattle.const_eval.specs.Terms as term
use Rattle.const_eval.specs.Terms.{Term, item_index, typ_in, typ_of}

-- ---- whole numbers and bits

-- the number modulo 2 to the width
abbrev pub bits_of : (width : ℕ) → ℤ → ℕ
bits_of width (pos n) = n % 2 ^ width
bits_of width (negsuc n) = 2 ^ width - 1 - n % 2 ^ width

-- the number modulo 2 to the width, read by the sign
unfoldable pub cut : (width : ℕ) → (signed : Bool) → ℤ → ℤ
cut width signed z = number_of width signed (bits_of width z)

abbrev pub cut_to : Typ → ℤ → ℤ
cut_to typ z = cut typ.width typ.signed z

abbrev pub truth : Bool → ℤ
truth true = pos 1
truth false = pos 0

abbrev pub is_zero : ℤ → Bool
is_zero (pos n) = nat_eq n 0
is_zero (negsuc n) = false

-- a value that may be missing, as the code keeps it
abbrev pub given : (known : Bool) → ℤ → Option ℤ
given true z = Some z
given false z = None

-- ---- operators before one operand

-- the value of an operator before one operand, which has `own` bits. A reduction looks at each of these bits.
abbrev pub single : UnOp → (whole : Typ) → (own : ℕ) → ℤ → ℤ
single unary.Plus whole own x = x
single unary.Neg whole own x = cut_to whole (neg_ℤ x)
single unary.Not whole own x = cut_to whole (neg_ℤ x -ℤ pos 1)
single unary.LogNot whole own x = truth (is_zero x)
single unary.And whole own x = truth (nat_eq (bits_of own x) (2 ^ own - 1))
single unary.Or whole own x = truth (not (nat_eq (bits_of own x) 0))
single unary.Xor whole own x = truth (nat_eq (count_ones (bits_of own x) % 2) 1)
single unary.Nand whole own x = truth (not (nat_eq (bits_of own x) (2 ^ own - 1)))
single unary.Nor whole own x = truth (nat_eq (bits_of own x) 0)
single unary.Xnor whole own x = truth (not (nat_eq (count_ones (bits_of own x) % 2) 1))

-- ---- operators between two operands, and unknown values

abbrev pub on_known : (ℤ → ℤ) → Option ℤ → Option ℤ
on_known f None = None
on_known f (Some x) = Some (f x)

abbrev pub on_both : (ℤ → ℤ → Option ℤ) → Option ℤ → Option ℤ → Option ℤ
on_both f None y = None
on_both f (Some x) None = None
on_both f (Some x) (Some y) = f x y

-- known, and 0
abbrev pub is_false : Option ℤ → Bool
is_false None = false
is_false (Some x) = is_zero x

-- known, and not 0
abbrev pub is_true : Option ℤ → Bool
is_true None = false
is_true (Some x) = not (is_zero x)

-- `&&`: false where an operand is false, else known where both are
abbrev pub both_true : (x y : Option ℤ) → Option ℤ
both_true x y = if is_false x || is_false y then Some (pos 0) else on_both (λ _ _. Some (pos 1)) x y

-- `||`: true where an operand is true, else known where both are
abbrev pub either_true : (x y : Option ℤ) → Option ℤ
either_true x y = if is_true x || is_true y then Some (pos 1) else on_both (λ _ _. Some (pos 0)) x y

-- the left operand decides by itself, whatever the right one is
abbrev pub is_decided : BinOp → (left : Option ℤ) → Bool
is_decided binary.LogAnd left = is_false left
is_decided binary.LogOr left = is_true left
is_decided op left = false

-- a number divided by another, if that isn't 0
abbrev pub unless_zero : ℤ → ℤ → Option ℤ
unless_zero y result = if is_zero y then None else Some result

-- The value of an operation whose whole has the type `whole`, where the right operand of a shift has `amount` bits. All
-- but `&&` and `||` need both operands.
abbrev pub combined : BinOp → (whole : Typ) → (amount : ℕ) → (x y : Option ℤ) → Option ℤ
combined binary.LogAnd whole amount x y = both_true x y
combined binary.LogOr whole amount x y = either_true x y
combined binary.Add whole amount x y = on_both (λ x y. Some (cut_to whole (x +ℤ y))) x y
combined binary.Sub whole amount x y = on_both (λ x y. Some (cut_to whole (x -ℤ y))) x y
combined binary.Mul whole amount x y = on_both (λ x y. Some (cut_to whole (x *ℤ y))) x y
combined binary.Div whole amount x y = on_both (λ x y. unless_zero y (cut_to whole (int_div x y))) x y
combined binary.Rem whole amount x y = on_both (λ x y. unless_zero y (cut_to whole (int_rem x y))) x y
combined binary.And whole amount x y = on_both (λ x y. Some (cut_to whole (pos (bit_and (bits_of whole.width x) (bits_of whole.width y))))) x y
combined binary.Or whole amount x y = on_both (λ x y. Some (cut_to whole (pos (bit_or (bits_of whole.width x) (bits_of whole.width y))))) x y
combined binary.Xor whole amount x y = on_both (λ x y. Some (cut_to whole (pos (bit_xor (bits_of whole.width x) (bits_of whole.width y))))) x y
combined binary.Shl whole amount x y = on_both (λ x y. Some (cut_to whole (x *ℤ pos (2 ^ bits_of amount y)))) x y
combined binary.Shr whole amount x y = on_both (λ x y. Some (cut_to whole (pos (bits_of whole.width x / 2 ^ bits_of amount y)))) x y
combined binary.Sshl whole amount x y = on_both (λ x y. Some (cut_to whole (x *ℤ pos (2 ^ bits_of amount y)))) x y
combined binary.Sshr whole amount x y = on_both (λ x y. Some (cut_to whole (int_shr x (bits_of amount y)))) x y
combined binary.Lt whole amount x y = on_both (λ x y. Some (truth (int_lt x y))) x y
combined binary.Le whole amount x y = on_both (λ x y. Some (truth (int_le x y))) x y
combined binary.Gt whole amount x y = on_both (λ x y. Some (truth (int_lt y x))) x y
combined binary.Ge whole amount x y = on_both (λ x y. Some (truth (int_le y x))) x y
combined binary.Eq whole amount x y = on_both (λ x y. Some (truth (is_zero (x -ℤ y)))) x y
combined binary.Ne whole amount x y = on_both (λ x y. Some (truth (not (is_zero (x -ℤ y))))) x y

-- `?:` needs its test and the side that it takes
abbrev pub chosen : (test first second : Option ℤ) → Option ℤ
chosen None first second = None
chosen (Some x) first second = if is_zero x then second else first

-- ---- expressions

-- the value of a name: of a signal by its place, where `item_index` stands for `item`
abbrev pub value_in : Meaning → (signals : List (Option ℤ)) → (item : Option ℤ) → Option ℤ
value_in (Signal index typ low) signals item = if nat_eq index item_index then item else slice_index_or signals index None
value_in (Const value typ low) signals item = Some value

-- The value of an expression that the type `whole` is handed down to. A name or a number keeps its own bits, which are
-- read by the sign of the whole.
abbrev pub value_of : Term → (signals : List (Option ℤ)) → (item : Option ℤ) → (whole : Typ) → Option ℤ
value_of (term.number bits typ) signals item whole = Some (cut typ.width whole.signed (pos bits))
value_of (term.name meaning at) signals item whole = on_known (cut (typ_in meaning).width whole.signed) (value_in meaning signals item)
value_of (term.part meaning skip width at) signals item whole = on_known (λ x. pos (bits_of (typ_in meaning).width x / 2 ^ skip % 2 ^ width)) (value_in meaning signals item)
value_of (term.alone inner) signals item whole = on_known (λ x. pos (bits_of (typ_of inner).width x)) (value_of inner signals item (typ_of inner))
value_of (term.joined front last) signals item whole = on_both (λ x y. Some (pos (bits_of (typ_of front).width x * 2 ^ (typ_of last).width + bits_of (typ_of last).width y))) (value_of front signals item (typ_of front)) (value_of last signals item (typ_of last))
value_of (term.unary op inner) signals item whole = on_known (single op whole (typ_of inner).width) (value_of inner signals item (unary_by op whole (typ_of inner)))
value_of (term.binary op left right) signals item whole = combined op whole (typ_of right).width (value_of left signals item (left_by (kind_of op) whole (typ_of left) (typ_of right))) (value_of right signals item (right_by (kind_of op) whole (typ_of left) (typ_of right)))
value_of (term.choice test first second) signals item whole = chosen (value_of test signals item (typ_of test)) (value_of first signals item whole) (value_of second signals item whole)

-- an expression that stands by itself
abbrev pub value : Term → (signals : List (Option ℤ)) → (item : Option ℤ) → Option ℤ
value term signals item = value_of term signals item (typ_of term)

-- ---- what a value is

-- the number is one of the type
abbrev pub IsNumberOf : Typ → ℤ → Type 0
IsNumberOf typ v = (lowest typ.width typ.signed ≤ℤ v) × (v ≤ℤ highest typ.width typ.signed)
