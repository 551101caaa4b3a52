-- Which cuts of a window are reached, as `window_in` marks them. Public contracts cite none of it.
use Rattle.std.specs.Prelude.{◌≡◌, ℕ, ◌≤◌, ◌↔◌, Bool, true, false, List, length, take, slice_index_or}
use Rattle.trans_seq.specs.Windows.{Then, IsOne, IsBlock, IsRun, IsBlocks}

module _ {X : Type 0} where
  -- the cut behind the list is a marked one
  abbrev pub IsReached : List Bool → List X → Type 0
  IsReached cuts w = slice_index_or cuts (length w) false ≡ true

  -- up to the end of w, the next cuts are those to which a list of P leads from one of the cuts
  abbrev pub Leads : (List X → Type 0) → List X → List Bool → List Bool → Type 0
  Leads P w cuts next = (k : ℕ) → k ≤ length w → (slice_index_or next k false ≡ true) ↔ Then (IsReached cuts) P (take k w)

module _ {X : Type 0} (p : X → Bool) where
  -- a block, or else a sample inside
  abbrev pub IsPart : Bool → List X → Type 0
  IsPart true w = IsBlock p w
  IsPart false w = IsOne p w

  -- so many of them
  abbrev pub IsParts : Bool → ℕ → List X → Type 0
  IsParts true m w = IsBlocks p m w
  IsParts false m w = IsRun p m w

  -- as many of them as a number from low to high says
  abbrev pub IsRepeated : Bool → ℕ → ℕ → List X → Type 0
  IsRepeated blocks low high w = (m : ℕ) × (low ≤ m) × (m ≤ high) × IsParts blocks m w
