-- A known value is a number of its expression's type.
use Rattle.std.proofs.Common.{◌≡◌, refl, sym, subst, ℕ, zero, suc, ◌+◌, ◌-◌, ◌*◌, ◌%◌, ◌^◌, ◌<◌, ◌≤◌, ℤ, pos, ◌-ℤ◌, ◌≤ℤ◌, Bool, true, false, cond, List, Option, Some, None, arith, pow-suc, nat_le}
use Rattle.std.specs.Prelude.{◌&&◌, ◌||◌, if◌then◌else◌}
use Rattle.std.proofs.lemmas.Int.{ints}
use Rattle.std.proofs.lemmas.Nat.{pow-add}
use Rattle.std.proofs.lemmas.Bool.Decides.{nat_tests}
use Rattle.std.proofs.Math.Pow.{pow_pos}
use Rattle.std.proofs.Math.Nat.{pow-le-pow_right}
use Rattle.bin_spec.specs.Types.{lowest, highest, number_of}
use Rattle.cov_tree.specs.declared.expr.UnOp.{UnOp}
use Rattle.cov_tree.specs.declared.expr.UnOp.TheVariants as unary
use Rattle.cov_tree.specs.declared.expr.BinOp.{BinOp}
use Rattle.cov_tree.specs.declared.expr.BinOp.TheVariants as binary
use Rattle.const_eval.specs.Typs.{Typ}
use Rattle.const_eval.specs.Typs.{one_bit, plain, common, kind_of, typ_by, unary_by}
use Rattle.const_eval.specs.Terms as term
use Rattle.const_eval.specs.Terms.{Term, typ_in, typ_of}
use Rattle.const_eval.specs.Values.{bits_of, cut, cut_to, truth, is_zero, single, on_known, on_both, is_false, is_true, unless_zero, combined, chosen, value_in, value_of, value, IsNumberOf}
use Rattle.const_eval.proofs.Words.{bits_below}

-- ---- numbers of a type

abbrev Within : ℕ → Bool → ℤ → Type 0
Within w s v = (lowest w s ≤ℤ v) × (v ≤ℤ highest w s)

half_power : (w : ℕ) → 2 ^ w ≤ 2 * 2 ^ (w - 1)
half_power zero = omega arith
half_power (suc w) = next (omega arith)
  where
    next : suc w - 1 ≡ w → 2 ^ suc w ≤ 2 * 2 ^ (suc w - 1)
    next e = rw e (omega (arith, pow-suc 2 w))

read_is : (w : ℕ) (s : Bool) (b : ℕ) → b < 2 ^ w → Within w s (number_of w s b)
read_is w false b lt = (omega (arith, ints), omega (arith, ints))
read_is w true b lt = by (nat_le (2 ^ w) (2 * b)) refl
  where
    some : 0 < 2 ^ (w - 1)
    some = pow_pos (w - 1)

    low : 2 ^ w ≤ 2 * b → (pos 0 -ℤ pos (2 ^ (w - 1))) ≤ℤ (pos b -ℤ pos (2 ^ w))
    low le = omega (arith, ints, half_power w, le)

    high : (pos b -ℤ pos (2 ^ w)) ≤ℤ (pos (2 ^ (w - 1)) -ℤ pos 1)
    high = omega (arith, ints, some, lt)

    by : (t : Bool) → nat_le (2 ^ w) (2 * b) ≡ t → Within w true (cond t (pos b -ℤ pos (2 ^ w)) (pos b))
    by true e = (low (grind (arith, nat_tests, e)), high)
    by false e = let lt' : 2 * b < 2 ^ w = grind (arith, nat_tests, e) in (omega (arith, ints), omega (arith, ints, half_power w, lt'))

cut_is : (w : ℕ) (s : Bool) (z : ℤ) → Within w s (cut w s z)
unfolding cut
cut_is w s z = read_is w s (bits_of w z) (bits_below w z)

wider : (w v : ℕ) (s : Bool) (z : ℤ) → w ≤ v → Within w s z → Within v s z
wider w v false z le h = let more : 2 ^ w ≤ 2 ^ v = pow-le-pow_right (omega arith) le in (h.0, omega (arith, ints, h.1, more))
wider w v true z le h = let more : 2 ^ (w - 1) ≤ 2 ^ (v - 1) = pow-le-pow_right (omega arith) (omega arith) in (omega (arith, ints, h.0, more), omega (arith, ints, h.1, more))

small : (w n : ℕ) → n < 2 ^ w → Within w false (pos n)
small w n lt = (omega (arith, ints), omega (arith, ints, lt))

truth_is : (b : Bool) → Within 1 false (truth b)
truth_is true = small 1 1 (omega arith)
truth_is false = small 1 0 (omega arith)

-- ---- the type that is handed down

-- it is no narrower than the expression's own, and has a sign only where that has one
record Admits (whole own : Typ) : Type 0 where
  wide : own.width ≤ whole.width
  sign : whole.signed ≡ true → own.signed ≡ true

unsigned : (whole own : Typ) → Admits whole own → own.signed ≡ false → whole.signed ≡ false
unsigned whole own a e = by whole.signed refl
  where
    by : (b : Bool) → whole.signed ≡ b → whole.signed ≡ false
    by true p = let q : own.signed ≡ true = a.sign p in cc (e, q)
    by false p = p

in_unsigned : (whole own : Typ) (v : ℤ) → Admits whole own → own.signed ≡ false → Within own.width false v → IsNumberOf whole v
in_unsigned whole own v a e h = subst (λ (s : Bool). Within whole.width s v) (sym (unsigned whole own a e)) (wider own.width whole.width false v a.wide h)

in_name : (whole own : Typ) (z : ℤ) → Admits whole own → IsNumberOf whole (cut own.width whole.signed z)
in_name whole own z a = wider own.width whole.width whole.signed (cut own.width whole.signed z) a.wide (cut_is own.width whole.signed z)

in_truth : (whole : Typ) (b : Bool) → Admits whole one_bit → IsNumberOf whole (truth b)
in_truth whole b a = in_unsigned whole one_bit (truth b) a refl (truth_is b)

-- ---- what is known

some_equal : (x v : ℤ) → Some x ≡ Some v → x ≡ v
some_equal x v e = cc

known_one : (P : ℤ → Type 0) (f : ℤ → ℤ) (o : Option ℤ) (v : ℤ) → ((x : ℤ) → P (f x)) → on_known f o ≡ Some v → P v
known_one P f None v h e = absurd cc
known_one P f (Some x) v h e = subst P (some_equal (f x) v e) (h x)

known_same : (o : Option ℤ) (v : ℤ) → on_known (λ x. x) o ≡ Some v → o ≡ Some v
known_same None v e = e
known_same (Some x) v e = e

known_both : (P : ℤ → Type 0) (f : ℤ → ℤ → Option ℤ) (x y : Option ℤ) (v : ℤ) → ((a b : ℤ) → f a b ≡ Some v → P v) → on_both f x y ≡ Some v → P v
known_both P f None y v h e = absurd cc
known_both P f (Some a) None v h e = absurd cc
known_both P f (Some a) (Some b) v h e = h a b e

known_choice : (P : Type 0) (test first second : Option ℤ) (v : ℤ) → (first ≡ Some v → P) → (second ≡ Some v → P) → chosen test first second ≡ Some v → P
known_choice P None first second v f s e = absurd cc
known_choice P (Some x) first second v f s e = by (is_zero x) e
  where
    by : (b : Bool) → (if b then second else first) ≡ Some v → P
    by true e = s e
    by false e = f e

-- ---- operators

cuts : (whole : Typ) (f : ℤ → ℤ → ℤ) (x y : Option ℤ) (v : ℤ) → on_both (λ a b. Some (cut_to whole (f a b))) x y ≡ Some v → IsNumberOf whole v
cuts whole f x y v e = known_both (IsNumberOf whole) (λ a b. Some (cut_to whole (f a b))) x y v (λ a b is. subst (IsNumberOf whole) (some_equal (cut_to whole (f a b)) v is) (cut_is whole.width whole.signed (f a b))) e

divides : (whole : Typ) (f : ℤ → ℤ → ℤ) (x y : Option ℤ) (v : ℤ) → on_both (λ a b. unless_zero b (cut_to whole (f a b))) x y ≡ Some v → IsNumberOf whole v
divides whole f x y v e = known_both (IsNumberOf whole) (λ a b. unless_zero b (cut_to whole (f a b))) x y v (λ a b is. by (is_zero b) (f a b) is) e
  where
    by : (t : Bool) (z : ℤ) → (if t then None else Some (cut_to whole z)) ≡ Some v → IsNumberOf whole v
    by true z is = absurd cc
    by false z is = subst (IsNumberOf whole) (some_equal (cut_to whole z) v is) (cut_is whole.width whole.signed z)

tells : (whole : Typ) (f : ℤ → ℤ → Bool) (x y : Option ℤ) (v : ℤ) → Admits whole one_bit → on_both (λ a b. Some (truth (f a b))) x y ≡ Some v → IsNumberOf whole v
tells whole f x y v a e = known_both (IsNumberOf whole) (λ a b. Some (truth (f a b))) x y v (λ p q is. subst (IsNumberOf whole) (some_equal (truth (f p q)) v is) (in_truth whole (f p q) a)) e

decides : (whole : Typ) (t known : Bool) (x y : Option ℤ) (v : ℤ) → Admits whole one_bit → (if t then Some (truth known) else on_both (λ _ _. Some (truth (if known then false else true))) x y) ≡ Some v → IsNumberOf whole v
decides whole true known x y v a e = subst (IsNumberOf whole) (some_equal (truth known) v e) (in_truth whole known a)
decides whole false known x y v a e = tells whole (λ _ _. if known then false else true) x y v a e

combined_is : (op : BinOp) (whole left right : Typ) (amount : ℕ) (x y : Option ℤ) (v : ℤ) → Admits whole (typ_by (kind_of op) left right) → combined op whole amount x y ≡ Some v → IsNumberOf whole v
combined_is binary.LogAnd whole left right amount x y v a e = decides whole (is_false x || is_false y) false x y v a e
combined_is binary.LogOr whole left right amount x y v a e = decides whole (is_true x || is_true y) true x y v a e
combined_is binary.Add whole left right amount x y v a e = cuts whole _ x y v e
combined_is binary.Sub whole left right amount x y v a e = cuts whole _ x y v e
combined_is binary.Mul whole left right amount x y v a e = cuts whole _ x y v e
combined_is binary.Div whole left right amount x y v a e = divides whole _ x y v e
combined_is binary.Rem whole left right amount x y v a e = divides whole _ x y v e
combined_is binary.And whole left right amount x y v a e = cuts whole _ x y v e
combined_is binary.Or whole left right amount x y v a e = cuts whole _ x y v e
combined_is binary.Xor whole left right amount x y v a e = cuts whole _ x y v e
combined_is binary.Shl whole left right amount x y v a e = cuts whole _ x y v e
combined_is binary.Shr whole left right amount x y v a e = cuts whole _ x y v e
combined_is binary.Sshl whole left right amount x y v a e = cuts whole _ x y v e
combined_is binary.Sshr whole left right amount x y v a e = cuts whole _ x y v e
combined_is binary.Lt whole left right amount x y v a e = tells whole _ x y v a e
combined_is binary.Le whole left right amount x y v a e = tells whole _ x y v a e
combined_is binary.Gt whole left right amount x y v a e = tells whole _ x y v a e
combined_is binary.Ge whole left right amount x y v a e = tells whole _ x y v a e
combined_is binary.Eq whole left right amount x y v a e = tells whole _ x y v a e
combined_is binary.Ne whole left right amount x y v a e = tells whole _ x y v a e

single_is : (op : UnOp) (whole inner : Typ) (own : ℕ) (o : Option ℤ) (v : ℤ) → Admits whole (unary_by op inner one_bit) → (Admits (unary_by op whole inner) inner → o ≡ Some v → IsNumberOf (unary_by op whole inner) v) → on_known (single op whole own) o ≡ Some v → IsNumberOf whole v
single_is unary.Plus whole inner own o v a h e = h a (known_same o v e)
single_is unary.Neg whole inner own o v a h e = known_one (IsNumberOf whole) (single unary.Neg whole own) o v (λ x. cut_is whole.width whole.signed _) e
single_is unary.Not whole inner own o v a h e = known_one (IsNumberOf whole) (single unary.Not whole own) o v (λ x. cut_is whole.width whole.signed _) e
single_is unary.LogNot whole inner own o v a h e = known_one (IsNumberOf whole) (single unary.LogNot whole own) o v (λ x. in_truth whole _ a) e
single_is unary.And whole inner own o v a h e = known_one (IsNumberOf whole) (single unary.And whole own) o v (λ x. in_truth whole _ a) e
single_is unary.Or whole inner own o v a h e = known_one (IsNumberOf whole) (single unary.Or whole own) o v (λ x. in_truth whole _ a) e
single_is unary.Xor whole inner own o v a h e = known_one (IsNumberOf whole) (single unary.Xor whole own) o v (λ x. in_truth whole _ a) e
single_is unary.Nand whole inner own o v a h e = known_one (IsNumberOf whole) (single unary.Nand whole own) o v (λ x. in_truth whole _ a) e
single_is unary.Nor whole inner own o v a h e = known_one (IsNumberOf whole) (single unary.Nor whole own) o v (λ x. in_truth whole _ a) e
single_is unary.Xnor whole inner own o v a h e = known_one (IsNumberOf whole) (single unary.Xnor whole own) o v (λ x. in_truth whole _ a) e

-- ---- expressions

low_part : (n w : ℕ) → n % 2 ^ w < 2 ^ w
low_part n w = let above : 0 < 2 ^ w = pow_pos w in omega arith

beside : (f l a b : ℕ) → a < 2 ^ f → b < 2 ^ l → a * 2 ^ l + b < 2 ^ (f + l)
beside f l a b lt_a lt_b = within a b (2 ^ f) (2 ^ l) (2 ^ (f + l)) lt_a lt_b (pow-add 2 f l)
  where
    within : (a b F L S : ℕ) → a < F → b < L → S ≡ F * L → a * L + b < S
    within a b F L S lt_a lt_b e = grind arith

admits_left : (whole a b : Typ) → Admits whole (common a b) → Admits whole a
admits_left whole a b h = record { wide = omega (arith, h.wide); sign = λ e. first a.signed b.signed (h.sign e) }
  where
    first : (p q : Bool) → (p && q) ≡ true → p ≡ true
    first true q e = refl
    first false q e = e

admits_right : (whole a b : Typ) → Admits whole (common a b) → Admits whole b
admits_right whole a b h = record { wide = omega (arith, h.wide); sign = λ e. second a.signed b.signed (h.sign e) }
  where
    second : (p q : Bool) → (p && q) ≡ true → q ≡ true
    second true q e = e
    second false q e = absurd cc

known_in : (t : Term) (signals : List (Option ℤ)) (item : Option ℤ) (whole : Typ) (v : ℤ) → Admits whole (typ_of t) → value_of t signals item whole ≡ Some v → IsNumberOf whole v
known_in (term.number bits typ) signals item whole v a e = subst (IsNumberOf whole) (some_equal (cut typ.width whole.signed (pos bits)) v e) (in_name whole typ (pos bits) a)
known_in (term.name meaning at) signals item whole v a e = known_one (IsNumberOf whole) (cut (typ_in meaning).width whole.signed) (value_in meaning signals item) v (λ x. in_name whole (typ_in meaning) x a) e
known_in (term.part meaning skip width at) signals item whole v a e = known_one (IsNumberOf whole) _ (value_in meaning signals item) v (λ x. in_unsigned whole (plain width) _ a refl (small width _ (low_part _ width))) e
known_in (term.alone inner) signals item whole v a e = known_one (IsNumberOf whole) _ (value_of inner signals item (typ_of inner)) v (λ x. in_unsigned whole (plain (typ_of inner).width) _ a refl (small (typ_of inner).width _ (bits_below (typ_of inner).width x))) e
known_in (term.joined front last) signals item whole v a e =
    let f = (typ_of front).width in
    let l = (typ_of last).width in
    known_both (IsNumberOf whole) _ (value_of front signals item (typ_of front)) (value_of last signals item (typ_of last)) v
    (λ x y is. subst (IsNumberOf whole) (some_equal _ v is) (in_unsigned whole (plain (f + l)) _ a refl (small (f + l) _ (beside f l (bits_of f x) (bits_of l y) (bits_below f x) (bits_below l y))))) e
known_in (term.unary op inner) signals item whole v a e = single_is op whole (typ_of inner) (typ_of inner).width (value_of inner signals item (unary_by op whole (typ_of inner))) v a (λ b is. known_in inner signals item (unary_by op whole (typ_of inner)) v b is) e
known_in (term.binary op left right) signals item whole v a e = combined_is op whole (typ_of left) (typ_of right) (typ_of right).width _ _ v a e
known_in (term.choice test first second) signals item whole v a e =
    known_choice (IsNumberOf whole v) (value_of test signals item (typ_of test)) (value_of first signals item whole) (value_of second signals item whole) v
    (λ is. known_in first signals item whole v (admits_left whole (typ_of first) (typ_of second) a) is) (λ is. known_in second signals item whole v (admits_right whole (typ_of first) (typ_of second) a) is) e

pub known_value : (term : Term) (signals : List (Option ℤ)) (item : Option ℤ) (v : ℤ) → value term signals item ≡ Some v → IsNumberOf (typ_of term) v
known_value term signals item v e = known_in term signals item (typ_of term) v (record { wide = omega arith; sign = λ s. s }) e
