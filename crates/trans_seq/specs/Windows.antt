-- Which windows of samples are lists of an item and of a sequence (IEEE 1800-2017, 19.5.2).
use Rattle.std.specs.Prelude.{◌≡◌, ℕ, ◌<◌, ◌≤◌, not, Bool, true, false, Option, Some, None, List, [], ◌∷◌, length, take, drop, map, All, Any, zero, suc, ℤ}
use Rattle.cov_base.specs.Sets.{written, is_in}
use Rattle.trans_seq.specs.declared.seq.Item.{Item}
use Rattle.trans_seq.specs.declared.seq.Seq.{Seq}
use Rattle.trans_seq.specs.declared.seq.Repeat.{Repeat}
use Rattle.trans_seq.specs.declared.seq.Repeat.TheVariants.{Once, Consec, Goto, NonConsec}

-- a sample is inside a set where it is known and in the set; otherwise it is outside
abbrev pub is_known_in : List (ℤ × ℤ) → Option ℤ → Bool
is_known_in set (Some value) = is_in (written set) value
is_known_in set None = false

module _ {X : Type 0} where
  -- the list begins with a list of P, and what follows is a list of Q
  pub record Then (P Q : List X → Type 0) (w : List X) : Type 0 where
    pub cut : ℕ
    pub within : cut ≤ length w
    pub first : P (take cut w)
    pub rest : Q (drop cut w)

module _ {X : Type 0} (p : X → Bool) where
  abbrev pub AllInside : List X → Type 0
  AllInside w = All (λ v. p v ≡ true) w

  abbrev pub AllOutside : List X → Type 0
  AllOutside w = All (λ v. p v ≡ false) w

  -- one sample inside
  abbrev pub IsOne : List X → Type 0
  IsOne w = (length w ≡ 1) × AllInside w

  -- any number of samples outside and then one inside
  abbrev pub IsBlock : List X → Type 0
  IsBlock w = Then AllOutside IsOne w

  -- at least one sample, all outside
  abbrev pub IsGap : List X → Type 0
  IsGap w = (0 < length w) × AllOutside w

  -- m samples inside
  abbrev pub IsRun : ℕ → List X → Type 0
  IsRun m w = (length w ≡ m) × AllInside w

  -- m blocks one after another
  abbrev pub IsBlocks : ℕ → List X → Type 0
  IsBlocks zero w = w ≡ []
  IsBlocks (suc m) w = Then (IsBlocks m) IsBlock w

  -- m blocks for an m from low to high
  abbrev pub IsGoto : ℕ → ℕ → List X → Type 0
  IsGoto low high w = (m : ℕ) × (low ≤ m) × (m ≤ high) × IsBlocks m w

  -- and, where trailing, any number of samples outside after them
  abbrev pub InBlocks : ℕ → ℕ → Bool → List X → Type 0
  InBlocks low high true w = Then (IsGoto low high) AllOutside w
  InBlocks low high false w = IsGoto low high w

-- whether no item follows
abbrev pub is_end : {X : Type 0} → List X → Bool
is_end [] = true
is_end (x ∷ xs) = false

abbrev pub InRepeat : {X : Type 0} → (X → Bool) → Repeat → Bool → List X → Type 0
InRepeat p Once last w = IsOne p w
InRepeat p (Consec low high) last w = (low ≤ length w) × (length w ≤ high) × AllInside p w
InRepeat p (Goto low high) last w = InBlocks p low high false w
InRepeat p (NonConsec low high) last w = InBlocks p low high (not last) w

-- the window is a list of the item, which is or isn't the last of its sequence
abbrev pub InItem : Item → Bool → List (Option ℤ) → Type 0
InItem item last w = InRepeat (is_known_in item.set) item.repeat last w

-- the window is the items' lists one after another
abbrev pub InSeq : List Item → List (Option ℤ) → Type 0
InSeq [] w = w ≡ []
InSeq (item ∷ items) w = Then (InItem item (is_end items)) (InSeq items) w

-- the window is a list of one of the sequences
abbrev pub InSome : List Seq → List (Option ℤ) → Type 0
InSome seqs w = Any (λ seq. InSeq seq.items w) seqs

-- the list of values is a list of the sequence, or of one of them
abbrev pub HasWord : Seq → List ℤ → Type 0
HasWord seq word = InSeq seq.items (map Some word)

abbrev pub SomeHasWord : List Seq → List ℤ → Type 0
SomeHasWord seqs word = InSome seqs (map Some word)

-- some window that ends with the last sample, and isn't empty, is in one of the sequences
pub record EndsWindow (seqs : List Seq) (w : List (Option ℤ)) : Type 0 where
  pub from : ℕ
  pub some : from < length w
  pub is_list : InSome seqs (drop from w)

-- Some window that ends with the last sample, and isn't empty, is in a sequence of own and in none of removed: those of
-- the ignored and the illegal transitions (19.5.5, 19.5.6).
pub record EndsKept (own removed : List Seq) (w : List (Option ℤ)) : Type 0 where
  pub from : ℕ
  pub some : from < length w
  pub in_own : InSome own (drop from w)
  pub not_removed : InSome removed (drop from w) → ⊥
