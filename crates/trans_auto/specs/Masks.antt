-- Which cells of sequences a list reaches, as bits of a mask.
use Rattle.std.specs.Prelude.{◌≡◌, ℕ, ◌+◌, ◌*◌, ◌<◌, ◌≤◌, ◌↔◌, Bool, true, false, Option, List, [], ◌∷◌, suc, ℤ, nat_eq, ⊤}
use Rattle.std.specs.Int.{bit_at}
use Rattle.trans_seq.specs.declared.seq.Item.{Item}
use Rattle.trans_seq.specs.declared.seq.Seq.{Seq}
use Rattle.trans_seq.specs.declared.seq.Repeat.{Repeat}
use Rattle.trans_seq.specs.declared.seq.Repeat.TheVariants.{Once, Consec, Goto, NonConsec}
use Rattle.trans_seq.specs.Cells.{cells_of_repeat, cells_of_items}
use Rattle.trans_seq.specs.Windows.{Then, IsGap, IsRun, IsBlocks, InItem, is_end, is_known_in}

-- whether bit k of the mask is set
abbrev pub has_bit : ℕ → ℕ → Bool
has_bit mask k = nat_eq (bit_at mask k) 1

-- the bits from base on say which cells of an item the list w reaches; E are the lists of the earlier items
module _ {X : Type 0} (p : X → Bool) (E : List X → Type 0) (base mask : ℕ) (w : List X) where
  -- m + 1 samples inside
  abbrev pub RunsHold : ℕ → Type 0
  RunsHold high = (m : ℕ) → m < high → (has_bit mask (base + m) ≡ true) ↔ Then E (IsRun p (suc m)) w

  -- m + 1 blocks, the last of which ends here; m blocks and a gap after them
  pub record BlocksHold (high gaps : ℕ) : Type 0 where
    pub at : (m : ℕ) → m < high → (has_bit mask (base + 2 * m + 1) ≡ true) ↔ Then E (IsBlocks p (suc m)) w
    pub after : (m : ℕ) → m < gaps → (has_bit mask (base + 2 * m) ≡ true) ↔ Then (Then E (IsBlocks p m)) (IsGap p) w

  abbrev pub RepeatHolds : Repeat → Type 0
  RepeatHolds Once = RunsHold 1
  RepeatHolds (Consec low high) = RunsHold high
  RepeatHolds (Goto low high) = BlocksHold high high
  RepeatHolds (NonConsec low high) = BlocksHold high (high + 1)

abbrev pub ItemsHold : (List (Option ℤ) → Type 0) → ℕ → ℕ → List (Option ℤ) → List Item → Type 0
ItemsHold E base mask w [] = ⊤
ItemsHold E base mask w (item ∷ items) =
    RepeatHolds (is_known_in item.set) E base mask w item.repeat
    × ItemsHold (Then E (InItem item (is_end items))) (base + cells_of_repeat item.repeat) mask w items

abbrev pub IsEmpty : List (Option ℤ) → Type 0
IsEmpty w = w ≡ []

-- the mask says which cells of the sequences the list reaches, and has no other bit
abbrev pub SeqsHold : ℕ → ℕ → List (Option ℤ) → List Seq → Type 0
SeqsHold base mask w [] = (k : ℕ) → base ≤ k → has_bit mask k ≡ false
SeqsHold base mask w (seq ∷ seqs) =
    ItemsHold IsEmpty base mask w seq.items
    × SeqsHold (base + cells_of_items seq.items) mask w seqs
