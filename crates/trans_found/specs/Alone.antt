-- Lists with one number of each of several sets in front of others.
use Rattle.std.specs.Prelude.{◌≡◌, ◌+◌, ◌<◌, ◌≤◌, ℕ, ℤ, List, [], ◌∷◌, ◌++◌, length, map, drop, ⊤}
use Rattle.std.specs.List.{flat_map}
use Rattle.cov_base.specs.Sets.{written, set_of}
use Rattle.cov_ground.specs.Limits.{most_bins}
use Rattle.trans_found.specs.declared.fault.ExpandFault.{ExpandFault}
use Rattle.trans_found.specs.declared.fault.ExpandFault.TheVariants.{Unbounded, TooLong, TooManyBins, Memory}
use Rattle.trans_seq.specs.declared.seq.Item.{Item}
use Rattle.trans_found.specs.Lists.{by_lengths}

-- these lists behind the numbers of first
abbrev pub behind : List ℤ → List (List ℤ) → List (List ℤ)
behind first lists = map (λ rest. first ++ rest) lists

-- and with one of the numbers between
abbrev pub behind_by : List ℤ → List ℤ → List (List ℤ) → List (List ℤ)
behind_by first numbers lists = flat_map (λ v. behind (first ++ v ∷ []) lists) numbers

-- each list with one number of each item's set in front of one of these, the last one running fastest
abbrev pub ahead : List Item → List (List ℤ) → List (List ℤ)
ahead [] lists = lists
ahead (item ∷ items) lists = flat_map (λ v. map (λ r. v ∷ r) (ahead items lists)) (written item.set)

-- the same in each group
abbrev pub groups_ahead : List Item → List (List (List ℤ)) → List (List (List ℤ))
groups_ahead items groups = map (λ group. ahead items group) groups

-- so many lists are too many, or memory ran out
abbrev pub Exceeds : ℕ → ExpandFault → Type 0
Exceeds lists Unbounded = ⊥
Exceeds lists (TooLong cells) = ⊥
Exceeds lists (TooManyBins count) = (count ≡ most_bins + 1) × (most_bins < lists)
Exceeds lists Memory = ⊤

-- the intervals of each item's set are in normal form
abbrev pub AreOrdered : List Item → Type 0
AreOrdered [] = ⊤
AreOrdered (item ∷ items) = (set_of (written item.set) ≡ item.set) × AreOrdered items

-- so many items in front have lists of one length alone, with one number of each set of the others
pub record IsFront (items others : List Item) (size : ℕ) : Type 0 where
  pub within : size ≤ length items
  pub groups : by_lengths items ≡ groups_ahead others (by_lengths (drop size items))
