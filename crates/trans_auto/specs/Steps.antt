-- What one sample does to a mask, bit by bit.
use Rattle.std.specs.Prelude.{◌≡◌, ℕ, ◌+◌, ◌*◌, ◌<◌, ◌≤◌, ◌↔◌, ◌&&◌, ◌||◌, not, Bool, true, false, Option, List, [], ◌∷◌, zero, suc, ℤ, ⊤}
use Rattle.trans_seq.specs.declared.seq.Item.{Item}
use Rattle.trans_seq.specs.declared.seq.Seq.{Seq}
use Rattle.trans_seq.specs.declared.seq.Repeat.{Repeat}
use Rattle.trans_seq.specs.declared.seq.Repeat.TheVariants.{Once, Consec, Goto, NonConsec}
use Rattle.trans_seq.specs.Windows.{is_end, is_known_in}
use Rattle.trans_seq.specs.Cells.{cells_of_repeat, cells_of_items}
use Rattle.trans_auto.specs.Masks.{has_bit}

module _ (enter : Bool) (base old : ℕ) where
  -- whether m samples of the run stand; 0 where the item may begin
  abbrev pub run_bit : ℕ → Bool
  run_bit zero = enter
  run_bit (suc m) = has_bit old (base + m)

  abbrev pub at_bit : ℕ → Bool
  at_bit zero = enter
  at_bit (suc m) = has_bit old (base + 2 * m + 1)

  -- m blocks, with or without a gap
  abbrev pub from_bit : ℕ → Bool
  from_bit m = at_bit m || has_bit old (base + 2 * m)

  -- m blocks, and where trailing also with a gap
  abbrev pub done_bit : Bool → ℕ → Bool
  done_bit true m = from_bit m
  done_bit false m = at_bit m

  module _ (inside : Bool) (new : ℕ) where
    abbrev pub RunsStep : ℕ → Type 0
    RunsStep high = (m : ℕ) → m < high → has_bit new (base + m) ≡ (inside && run_bit m)

    pub record BlocksStep (high gaps : ℕ) : Type 0 where
      pub at : (m : ℕ) → m < high → has_bit new (base + 2 * m + 1) ≡ (inside && from_bit m)
      pub after : (m : ℕ) → m < gaps → has_bit new (base + 2 * m) ≡ (not inside && from_bit m)

    abbrev pub RepeatSteps : Repeat → Type 0
    RepeatSteps Once = RunsStep 1
    RepeatSteps (Consec low high) = RunsStep high
    RepeatSteps (Goto low high) = BlocksStep high high
    RepeatSteps (NonConsec low high) = BlocksStep high (high + 1)

  -- whether the item may be complete
  abbrev pub Leaves : Repeat → Bool → Type 0
  Leaves Once last = run_bit 1 ≡ true
  Leaves (Consec low high) last = (m : ℕ) × (low ≤ m) × (m ≤ high) × (run_bit m ≡ true)
  Leaves (Goto low high) last = (m : ℕ) × (low ≤ m) × (m ≤ high) × (done_bit false m ≡ true)
  Leaves (NonConsec low high) last = (m : ℕ) × (low ≤ m) × (m ≤ high) × (done_bit (not last) m ≡ true)

-- from the mask old to the mask new at the sample v; next says whether the following item may begin
abbrev pub ItemsStep : Bool → ℕ → ℕ → ℕ → Option ℤ → List Item → Type 0
ItemsStep enter base old new v [] = ⊤
ItemsStep enter base old new v (item ∷ items) =
    RepeatSteps enter base old (is_known_in item.set v) new item.repeat
    × (next : Bool) × ((next ≡ true) ↔ Leaves enter base old item.repeat (is_end items))
    × ItemsStep next (base + cells_of_repeat item.repeat) old new v items

abbrev pub SeqsStep : Bool → ℕ → ℕ → ℕ → Option ℤ → List Seq → Type 0
SeqsStep fresh base old new v [] = (k : ℕ) → base ≤ k → has_bit new k ≡ false
SeqsStep fresh base old new v (seq ∷ seqs) =
    ItemsStep fresh base old new v seq.items
    × SeqsStep fresh (base + cells_of_items seq.items) old new v seqs

-- whether all items are complete
abbrev pub Accepts : Bool → ℕ → ℕ → List Item → Bool → Type 0
Accepts enter base mask [] answer = answer ≡ enter
Accepts enter base mask (item ∷ items) answer =
    (next : Bool) × ((next ≡ true) ↔ Leaves enter base mask item.repeat (is_end items))
    × Accepts next (base + cells_of_repeat item.repeat) mask items answer

abbrev pub SomeAccepts : Bool → ℕ → ℕ → List Seq → Bool → Type 0
SomeAccepts fresh base mask [] answer = answer ≡ false
SomeAccepts fresh base mask (seq ∷ seqs) answer =
    (one : Bool) × (others : Bool) × Accepts fresh base mask seq.items one
    × SomeAccepts fresh (base + cells_of_items seq.items) mask seqs others
    × (answer ≡ (one || others))
