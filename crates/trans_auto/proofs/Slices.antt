-- Items and sequences by the first and the rest, as a slice has them.
use Rattle.std.proofs.Common.{◌≡◌, ℕ, ◌+◌, ◌-◌, ◌*◌, ◌<◌, ◌≤◌, List, [], ◌∷◌, length, take, drop, get_or, refl, ap, sym, ◌∙◌, arith, Bool, Option}
use Rattle.std.specs.Prelude.{ℤ, ◌==◌}
use Rattle.std.proofs.lemmas.Slice.{first_rest}
use Rattle.std.proofs.lemmas.Bool.{ne_eqb}
use Rattle.trans_seq.specs.declared.seq.Item.{Item}
use Rattle.trans_seq.specs.declared.seq.Seq.{Seq}
use Rattle.trans_seq.specs.declared.seq.Repeat.{Repeat}
use Rattle.trans_seq.specs.declared.seq.Repeat.TheVariants.{Once, Consec, Goto, NonConsec}
use Rattle.trans_seq.specs.Windows.{is_end, is_known_in}
use Rattle.trans_seq.specs.Cells.{cells_of_repeat, cells_of_items, cells_of_seqs}
use Rattle.trans_auto.specs.Masks.{has_bit}
use Rattle.trans_auto.specs.Steps.{BlocksStep, RepeatSteps, ItemsStep}

module _ {X : Type 0} where
  abbrev pub others : List X → List X
  others xs = take (length xs - 1) (drop 1 xs)

  pub split : (xs : List X) (d : X) → 0 < length xs → d ≡ get_or xs 0 d → xs ≡ d ∷ others xs
  split xs d some is = first_rest xs d some ∙ ap (λ x. x ∷ others xs) (sym is)

  pub is_end-length : (xs : List X) → (length xs == 0) ≡ is_end xs
  is_end-length [] = refl
  is_end-length (x ∷ xs) = ne_eqb (length (x ∷ xs)) 0 (λ e. omega (arith, e))

pub cells_of_items-split : (items : List Item) (d : Item) → 0 < length items → d ≡ get_or items 0 d → cells_of_items items ≡ cells_of_repeat d.repeat + cells_of_items (others items)
cells_of_items-split items d some is = ap cells_of_items (split items d some is)

pub cells_of_seqs-split : (seqs : List Seq) (d : Seq) → 0 < length seqs → d ≡ get_or seqs 0 d → cells_of_seqs seqs ≡ cells_of_items d.items + cells_of_seqs (others seqs)
cells_of_seqs-split seqs d some is = ap cells_of_seqs (split seqs d some is)

-- a step reads only the item's own bits
module _ (enter : Bool) (base old : ℕ) (inside : Bool) (new later : ℕ) where
  blocks-same : (high gaps : ℕ) → high ≤ gaps → gaps ≤ high + 1 → ((k : ℕ) → k < base + (high + gaps) → has_bit later k ≡ has_bit new k) → BlocksStep enter base old inside new high gaps → BlocksStep enter base old inside later high gaps
  blocks-same high gaps lo hi same step = record {
    at = λ m h. same (base + 2 * m + 1) (omega arith) ∙ step.at m h;
    after = λ m h. same (base + 2 * m) (omega arith) ∙ step.after m h;
  }

  pub repeat-same : (r : Repeat) → ((k : ℕ) → k < base + cells_of_repeat r → has_bit later k ≡ has_bit new k) → RepeatSteps enter base old inside new r → RepeatSteps enter base old inside later r
  repeat-same Once same step = λ m h. same (base + m) (omega arith) ∙ step m h
  repeat-same (Consec low high) same step = λ m h. same (base + m) (omega arith) ∙ step m h
  repeat-same (Goto low high) same step = blocks-same high high (omega arith) (omega arith) (λ k h. same k (omega arith)) step
  repeat-same (NonConsec low high) same step = blocks-same high (high + 1) (omega arith) (omega arith) (λ k h. same k (omega arith)) step

pub items-same : (enter : Bool) (base old new later : ℕ) (v : Option ℤ) (items : List Item) → ((k : ℕ) → k < base + cells_of_items items → has_bit later k ≡ has_bit new k) → ItemsStep enter base old new v items → ItemsStep enter base old later v items
items-same enter base old new later v [] same step = tt
items-same enter base old new later v (item ∷ items) same step = (
  repeat-same enter base old (is_known_in item.set v) new later item.repeat (λ k h. same k (omega arith)) step.0,
  step.1,
  step.2,
  items-same step.1 (base + cells_of_repeat item.repeat) old new later v items (λ k h. same k (omega arith)) step.3,
)
