-- Bits put behind other bits.
use Rattle.std.proofs.Common.{◌≡◌, ℕ, ◌+◌, ◌<◌, ◌&&◌, ◌||◌, Bool, ap, ◌∙◌, arith, refl, List, [], ◌∷◌, Option}
use Rattle.std.specs.Prelude.{ℤ}
use Rattle.std.proofs.Math.Bool.{or-false, and-false}
use Rattle.trans_seq.specs.declared.seq.Item.{Item}
use Rattle.trans_seq.specs.declared.seq.Repeat.{Repeat}
use Rattle.trans_seq.specs.Cells.{cells_of_repeat, cells_of_items}
use Rattle.trans_auto.specs.declared.marks.Mark.{Mark}
use Rattle.trans_auto.specs.Masks.{has_bit}
use Rattle.trans_auto.specs.Layout.{is_marked, IsMarkedAlone, IsClear, Adds, ItemsMarked, ItemsInside, ItemsEnter}

-- the bits below `end` are the same
abbrev pub SameBelow : ℕ → ℕ → ℕ → Type 0
SameBelow end new old = (k : ℕ) → k < end → has_bit new k ≡ has_bit old k

abbrev pub Cells : ℕ → ℕ → (ℕ → Bool) → ℕ → Type 0
Cells base size f mask = (k : ℕ) → k < size → has_bit mask (base + k) ≡ f k

pub cells-same : (base size : ℕ) (f : ℕ → Bool) (new old : ℕ) → SameBelow (base + size) new old → Cells base size f old → Cells base size f new
cells-same base size f new old same cells k lt = same (base + k) (omega (arith, lt)) ∙ cells k lt

-- an item's cells, marked or not, behind a mask
pub adds-mark : (base start lower mask : ℕ) (mark : Mark) (r : Repeat) (last wanted : Bool) → IsMarkedAlone mark base r last mask → IsClear base start → ((k : ℕ) → has_bit lower k ≡ (has_bit start k || wanted && has_bit mask k)) → Adds base (cells_of_repeat r) start lower (Cells base (cells_of_repeat r) (λ k. wanted && is_marked mark r last k))
adds-mark base start lower mask mark r last wanted alone clear is = record {
  below = λ k lt. is k ∙ ap (λ b. has_bit start k || wanted && b) (alone.below k lt) ∙ ap (λ b. has_bit start k || b) (and-false wanted) ∙ or-false (has_bit start k);
  here = λ k lt. is (base + k) ∙ ap (λ b. b || wanted && has_bit mask (base + k)) (clear (base + k) (omega arith)) ∙ ap (λ b. wanted && b) (alone.here k lt);
  above = λ k le. is k ∙ ap (λ b. b || wanted && has_bit mask k) (clear k (omega (arith, le))) ∙ ap (λ b. wanted && b) (alone.above k le) ∙ and-false wanted;
}

pub adds-nothing : (base start : ℕ) (P : ℕ → Type 0) → IsClear base start → P start → Adds base 0 start start P
adds-nothing base start P clear p = record { below = λ k lt. refl; here = p; above = λ k le. clear k (omega (arith, le)) }

-- the same bits, said otherwise
pub adds-as : (base size start mask : ℕ) (P Q : ℕ → Type 0) → (P mask → Q mask) → Adds base size start mask P → Adds base size start mask Q
adds-as base size start mask P Q f a = record { below = a.below; here = f a.here; above = a.above }

-- one piece behind another
pub adds-then : (base n m start lower new : ℕ) (P Q : ℕ → Type 0) → (SameBelow (base + n) new lower → P lower → P new) → Adds base n start lower P → Adds (base + n) m lower new Q → Adds base (n + m) start new (λ mask. P mask × Q mask)
adds-then base n m start lower new P Q stable first second = record {
  below = λ k lt. second.below k (omega (arith, lt)) ∙ first.below k lt;
  here = (stable second.below first.here, second.here);
  above = λ k le. second.above k (omega (arith, le));
}

pub items-inside-same : (base new old : ℕ) (v : Option ℤ) (items : List Item) → SameBelow (base + cells_of_items items) new old → ItemsInside base old v items → ItemsInside base new v items
items-inside-same base new old v [] same inside = tt
items-inside-same base new old v (item ∷ items) same inside = (
  (λ k lt. same (base + k) (omega (arith, lt)) ∙ inside.0 k lt),
  items-inside-same (base + cells_of_repeat item.repeat) new old v items (λ k lt. same k (omega (arith, lt))) inside.1,
)

pub items-enter-same : (enter : Bool) (base old new lower : ℕ) (items : List Item) → SameBelow (base + cells_of_items items) new lower → ItemsEnter enter base old lower items → ItemsEnter enter base old new items
items-enter-same enter base old new lower [] same holds = tt
items-enter-same enter base old new lower (item ∷ items) same holds = (
  (λ k lt. same (base + k) (omega (arith, lt)) ∙ holds.0 k lt),
  holds.1,
  holds.2,
  items-enter-same holds.1 (base + cells_of_repeat item.repeat) old new lower items (λ k lt. same k (omega (arith, lt))) holds.3,
)

pub items-marked-same : (mark : Mark) (base new old : ℕ) (items : List Item) → SameBelow (base + cells_of_items items) new old → ItemsMarked mark base old items → ItemsMarked mark base new items
items-marked-same mark base new old [] same held = tt
items-marked-same mark base new old (item ∷ items) same held = (
  (λ k lt. same (base + k) (omega (arith, lt)) ∙ held.0 k lt),
  items-marked-same mark (base + cells_of_repeat item.repeat) new old items (λ k lt. same k (omega (arith, lt))) held.1,
)
