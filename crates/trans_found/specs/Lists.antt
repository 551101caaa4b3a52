-- The lists of values that a sequence stands for, written out in order. Each is a list of samples, all known
-- (IEEE 1800-2017, 19.5.2).
use Rattle.std.specs.Prelude.{ℤ, ℕ, zero, suc, ◌≡◌, ◌+◌, ◌-◌, ◌^◌, ◌<◌, ◌≤◌, min, List, [], ◌∷◌, ◌++◌, length, map, take, All, slice_get, Some, Bool, true, false, if◌then◌else◌}
use Rattle.std.specs.Ordering.{int_eq}
use Rattle.std.specs.List.{list_any, flat_map}
use Rattle.std.specs.Cmp.Lexicographic.{pointwise}
use Rattle.cov_base.specs.Sets.{written}
use Rattle.cov_ground.specs.Limits.{most_bins, most_cells}
use Rattle.trans_seq.specs.Cells.{cells_of_items}
use Rattle.trans_found.specs.declared.fault.ExpandFault.{ExpandFault}
use Rattle.trans_found.specs.declared.fault.ExpandFault.TheVariants.{Unbounded, TooLong, TooManyBins, Memory}
use Rattle.trans_seq.specs.declared.seq.Item.{Item}
use Rattle.trans_seq.specs.declared.seq.Seq.{Seq}
use Rattle.trans_seq.specs.declared.seq.Repeat.{Repeat}
use Rattle.trans_seq.specs.declared.seq.Repeat.TheVariants.{Once, Consec, Goto, NonConsec}

-- the numbers from low on, so many
abbrev pub from_on : ℕ → ℕ → List ℕ
from_on low zero = []
from_on low (suc n) = low ∷ from_on (low + 1) n

-- The lengths of an item's lists, ascending. `[->` and `[=` have lists of any length: none is listed.
abbrev pub lengths : Repeat → List ℕ
lengths Once = 1 ∷ []
lengths (Consec low high) = from_on low (high + 1 - low)
lengths (Goto low high) = []
lengths (NonConsec low high) = []

-- each list of so many of the numbers, by ascending places in them, the last one running fastest
abbrev pub choices : List ℤ → ℕ → List (List ℤ)
choices numbers zero = [] ∷ []
choices numbers (suc n) = flat_map (λ v. map (λ rest. v ∷ rest) (choices numbers n)) numbers

-- each of the first lists with each of the others behind it, the others running faster
abbrev pub joined : List (List ℤ) → List (List ℤ) → List (List ℤ)
joined firsts others = flat_map (λ first. map (λ other. first ++ other) others) firsts

-- A sequence's lists, in one group for each choice of its items' lengths: these choices ascend, the length of the
-- first item running slowest, and in a group the values ascend, the last place running fastest.
abbrev pub by_lengths : List Item → List (List (List ℤ))
by_lengths [] = ([] ∷ []) ∷ []
by_lengths (item ∷ items) = flat_map (λ n. map (λ group. joined (choices (written item.set) n) group) (by_lengths items)) (lengths item.repeat)

-- whether the list is one of these
abbrev pub is_among : List (List ℤ) → List ℤ → Bool
is_among lists w = list_any (pointwise int_eq w) lists

-- the lists that are not among those before, and stand nowhere earlier themselves
abbrev pub news : List (List ℤ) → List (List ℤ) → List (List ℤ)
news before [] = []
news before (w ∷ ws) = if is_among before w then news before ws else w ∷ news (before ++ w ∷ []) ws

-- the groups one behind the other
abbrev pub all_of : List (List (List ℤ)) → List (List ℤ)
all_of groups = flat_map (λ group. group) groups

-- the distinct lists of a sequence in order: one that was there before is left out
unfoldable pub listed : List Item → List (List ℤ)
listed items = news [] (all_of (by_lengths items))

-- ---- written out, or refused

-- `[->` and `[=` have lists of any length
abbrev pub goes_on : Repeat → Bool
goes_on Once = false
goes_on (Consec low high) = false
goes_on (Goto low high) = true
goes_on (NonConsec low high) = true

-- the item has lists of any length
abbrev pub is_endless : Item → Bool
is_endless item = goes_on item.repeat

abbrev pub HasEndless : List Item → Type 0
HasEndless items = list_any is_endless items ≡ true

-- the lists are those of the items, which are within the limits on values and lists
pub record Expands (items : List Item) (lists : List (List ℤ)) : Type 0 where
  pub are : lists ≡ listed items
  pub bounded : list_any is_endless items ≡ false
  pub short : cells_of_items items ≤ most_cells
  pub few : length (listed items) ≤ most_bins

-- The cause of each refusal, the earlier ones being ruled out. Memory may run out at any time after the first two.
abbrev pub RefusesToExpand : List Item → ExpandFault → Type 0
RefusesToExpand items Unbounded = HasEndless items
RefusesToExpand items (TooLong cells) = (list_any is_endless items ≡ false) × (most_cells < cells_of_items items) × (cells ≡ min (cells_of_items items) (2 ^ 64 - 1))
RefusesToExpand items (TooManyBins count) = (list_any is_endless items ≡ false) × (cells_of_items items ≤ most_cells) × (most_bins < length (listed items)) × (count ≡ most_bins + 1)
RefusesToExpand items Memory = (list_any is_endless items ≡ false) × (cells_of_items items ≤ most_cells)

-- ---- the sequences of one declaration

-- an item of the sequence has lists of any length
abbrev pub has_endless : Seq → Bool
has_endless seq = list_any is_endless seq.items

-- each list of the sequence is within the limit on values
abbrev pub IsShort : Seq → Type 0
IsShort seq = cells_of_items seq.items ≤ most_cells

-- the lists of the sequences, one sequence after the other, and those of them that weren't there before
abbrev pub lists_by_all : List Seq → List (List ℤ)
lists_by_all seqs = flat_map (λ seq. listed seq.items) seqs

abbrev pub listed_by_all : List Seq → List (List ℤ)
listed_by_all seqs = news [] (lists_by_all seqs)

-- the lists are those of the sequences, which are within the limits on values and lists
pub record ExpandsAll (seqs : List Seq) (lists : List (List ℤ)) : Type 0 where
  pub are : lists ≡ listed_by_all seqs
  pub bounded : list_any has_endless seqs ≡ false
  pub short : All IsShort seqs
  pub few : length (listed_by_all seqs) ≤ most_bins

-- the sequence at the index is the first one whose lists have more values than the limit, `cells` being how many
pub record IsFirstLong (seqs : List Seq) (cells : ℕ) : Type 0 where
  pub index : ℕ
  pub seq : Seq
  pub is : slice_get seqs index ≡ Some seq
  pub before : All IsShort (take index seqs)
  pub long : most_cells < cells_of_items seq.items
  pub cells_are : cells ≡ min (cells_of_items seq.items) (2 ^ 64 - 1)

-- The cause of each refusal, the earlier ones being ruled out. Memory may run out at any time after the first two.
abbrev pub RefusesToExpandAll : List Seq → ExpandFault → Type 0
RefusesToExpandAll seqs Unbounded = list_any has_endless seqs ≡ true
RefusesToExpandAll seqs (TooLong cells) = (list_any has_endless seqs ≡ false) × IsFirstLong seqs cells
RefusesToExpandAll seqs (TooManyBins count) = (list_any has_endless seqs ≡ false) × All IsShort seqs × (most_bins < length (listed_by_all seqs)) × (count ≡ most_bins + 1)
RefusesToExpandAll seqs Memory = (list_any has_endless seqs ≡ false) × All IsShort seqs
