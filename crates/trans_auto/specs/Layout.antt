-- Where the cells of sequences lie in a mask, and what a step has to know of them.
use Rattle.std.specs.Prelude.{◌≡◌, ℕ, ◌+◌, ◌/◌, ◌%◌, ◌<◌, ◌≤◌, ◌&&◌, ◌||◌, not, leb, eqb, Bool, true, false, List, [], ◌∷◌, ◌++◌, ⊤, Option, ℤ, ◌↔◌, zero, suc}
use Rattle.trans_seq.specs.declared.seq.Item.{Item}
use Rattle.trans_seq.specs.declared.seq.Seq.{Seq}
use Rattle.trans_seq.specs.declared.seq.Repeat.{Repeat}
use Rattle.trans_seq.specs.declared.seq.Repeat.TheVariants.{Once, Consec, Goto, NonConsec}
use Rattle.trans_seq.specs.Windows.{is_end, is_known_in}
use Rattle.trans_seq.specs.Cells.{cells_of_repeat, cells_of_items}
use Rattle.trans_auto.specs.declared.marks.Mark.{Mark}
use Rattle.trans_auto.specs.declared.marks.Mark.TheVariants.{All, First, Later, Run, Gap, End, Done}
use Rattle.trans_auto.specs.declared.marks.ItemCells.{ItemCells}
use Rattle.trans_auto.specs.declared.steps.Masks.{Masks}
use Rattle.trans_auto.specs.Masks.{has_bit}
use Rattle.trans_auto.specs.Steps.{Leaves}

-- whether the item's cells are those of a run; else each even one is a gap, and each odd one the end of a block
abbrev pub is_run : Repeat → Bool
is_run Once = true
is_run (Consec low high) = true
is_run (Goto low high) = false
is_run (NonConsec low high) = false

-- whether the item may be complete at its cell k; at k and k + 1 samples of a run stand, and (k + 1) / 2 blocks
abbrev pub is_done : Repeat → Bool → ℕ → Bool
is_done Once last k = true
is_done (Consec low high) last k = leb low (k + 1)
is_done (Goto low high) last k = eqb (k % 2) 1 && leb low ((k + 1) / 2)
is_done (NonConsec low high) last k = (eqb (k % 2) 1 || not last) && leb low ((k + 1) / 2)

-- whether the item may be complete without a sample
abbrev pub skips : Repeat → Bool
skips Once = false
skips (Consec low high) = eqb low 0
skips (Goto low high) = eqb low 0
skips (NonConsec low high) = eqb low 0

-- whether cell k of an item is marked
abbrev pub is_marked : Mark → Repeat → Bool → ℕ → Bool
is_marked All r last k = true
is_marked First r last k = eqb k 0
is_marked Later r last k = not (eqb k 0)
is_marked Run r last k = is_run r
is_marked Gap r last k = not (is_run r) && eqb (k % 2) 0
is_marked End r last k = not (is_run r) && eqb (k % 2) 1
is_marked Done r last k = is_done r last k

-- the mask has the marked cells of the item
abbrev pub IsMarked : Mark → ℕ → Repeat → Bool → ℕ → Type 0
IsMarked mark base r last mask = (k : ℕ) → k < cells_of_repeat r → has_bit mask (base + k) ≡ is_marked mark r last k

-- and no other bit
pub record IsMarkedAlone (mark : Mark) (base : ℕ) (r : Repeat) (last : Bool) (mask : ℕ) : Type 0 where
  pub below : (k : ℕ) → k < base → has_bit mask k ≡ false
  pub here : IsMarked mark base r last mask
  pub above : (k : ℕ) → base + cells_of_repeat r ≤ k → has_bit mask k ≡ false

abbrev pub ItemsMarked : Mark → ℕ → ℕ → List Item → Type 0
ItemsMarked mark base mask [] = ⊤
ItemsMarked mark base mask (item ∷ items) =
    IsMarked mark base item.repeat (is_end items) mask
    × ItemsMarked mark (base + cells_of_repeat item.repeat) mask items

-- the mask has the marked cells of the sequences, and no other bit from base on
abbrev pub SeqsMarked : Mark → ℕ → ℕ → List Seq → Type 0
SeqsMarked mark base mask [] = (k : ℕ) → base ≤ k → has_bit mask k ≡ false
SeqsMarked mark base mask (seq ∷ seqs) =
    ItemsMarked mark base mask seq.items
    × SeqsMarked mark (base + cells_of_items seq.items) mask seqs

-- what is known of an item whose cells begin at base
pub record IsLaid (base : ℕ) (r : Repeat) (last : Bool) (cells : ItemCells) : Type 0 where
  pub all : IsMarkedAlone All base r last cells.all
  pub first : IsMarkedAlone First base r last cells.first
  pub done : IsMarkedAlone Done base r last cells.done
  pub skips : cells.skips ≡ skips r

abbrev pub ItemsLaid : ℕ → List Item → List ItemCells → Type 0
ItemsLaid base [] cells = cells ≡ []
ItemsLaid base (item ∷ items) [] = ⊥
ItemsLaid base (item ∷ items) (one ∷ cells) =
    IsLaid base item.repeat (is_end items) one
    × ItemsLaid (base + cells_of_repeat item.repeat) items cells

abbrev pub SeqsLaid : ℕ → List Seq → List (List ItemCells) → Type 0
SeqsLaid base [] cells = cells ≡ []
SeqsLaid base (seq ∷ seqs) [] = ⊥
SeqsLaid base (seq ∷ seqs) (one ∷ cells) =
    ItemsLaid base seq.items one
    × SeqsLaid (base + cells_of_items seq.items) seqs cells

-- no bit from base on
abbrev pub IsClear : ℕ → ℕ → Type 0
IsClear base mask = (k : ℕ) → base ≤ k → has_bit mask k ≡ false

-- from the mask start, which is clear from base on, to one with bits of size more cells, of which P holds
pub record Adds (base size start mask : ℕ) (P : ℕ → Type 0) : Type 0 where
  pub below : (k : ℕ) → k < base → has_bit mask k ≡ has_bit start k
  pub here : P mask
  pub above : IsClear (base + size) mask

-- the mask says at each cell of an item whether the sample is inside the item's set
abbrev pub ItemsInside : ℕ → ℕ → Option ℤ → List Item → Type 0
ItemsInside base mask v [] = ⊤
ItemsInside base mask v (item ∷ items) =
    ((k : ℕ) → k < cells_of_repeat item.repeat → has_bit mask (base + k) ≡ is_known_in item.set v)
    × ItemsInside (base + cells_of_repeat item.repeat) mask v items

abbrev pub SeqsInside : ℕ → ℕ → Option ℤ → List Seq → Type 0
SeqsInside base mask v [] = ⊤
SeqsInside base mask v (seq ∷ seqs) =
    ItemsInside base mask v seq.items
    × SeqsInside (base + cells_of_items seq.items) mask v seqs

-- the mask has the first cell of each item that may begin at the next sample, enter saying so of the first item
abbrev pub ItemsEnter : Bool → ℕ → ℕ → ℕ → List Item → Type 0
ItemsEnter enter base old mask [] = ⊤
ItemsEnter enter base old mask (item ∷ items) =
    ((k : ℕ) → k < cells_of_repeat item.repeat → has_bit mask (base + k) ≡ (enter && eqb k 0))
    × (next : Bool) × ((next ≡ true) ↔ Leaves enter base old item.repeat (is_end items))
    × ItemsEnter next (base + cells_of_repeat item.repeat) old mask items

abbrev pub SeqsEnter : Bool → ℕ → ℕ → ℕ → List Seq → Type 0
SeqsEnter fresh base old mask [] = ⊤
SeqsEnter fresh base old mask (seq ∷ seqs) =
    ItemsEnter fresh base old mask seq.items
    × SeqsEnter fresh (base + cells_of_items seq.items) old mask seqs

-- bit k - 1
abbrev pub bit_before : ℕ → ℕ → Bool
bit_before mask zero = false
bit_before mask (suc k) = has_bit mask k

-- one sample on each cell at once
module _ (masks : Masks) (inside enters old : ℕ) where
  -- the samples of a run or the blocks that stand before the cell's own
  abbrev pub stands_before : ℕ → Bool
  stands_before k = has_bit enters k || bit_before old k && has_bit masks.later k

  -- and at a gap, those that stand with the gap
  abbrev pub stands_open : ℕ → Bool
  stands_open k = (stands_before k || has_bit old k) && has_bit masks.gaps k

  abbrev pub open_before : ℕ → Bool
  open_before zero = false
  open_before (suc k) = stands_open k

  abbrev pub moved_bit : ℕ → Bool
  moved_bit k = stands_before k && has_bit masks.runs k && has_bit inside k
      || open_before k && has_bit masks.ends k && has_bit inside k
      || stands_open k && not (has_bit inside k)

-- what is known of the cells of a side
pub record MasksLaid (seqs : List Seq) (masks : Masks) : Type 0 where
  pub runs : SeqsMarked Run 0 masks.runs seqs
  pub gaps : SeqsMarked Gap 0 masks.gaps seqs
  pub ends : SeqsMarked End 0 masks.ends seqs
  pub later : SeqsMarked Later 0 masks.later seqs

-- the elements behind those of old, which are kept
abbrev pub Grows : {X : Type 0} → List X → List X → (List X → Type 0) → Type 0
Grows {X} old new P = (added : List X) × (new ≡ old ++ added) × P added
