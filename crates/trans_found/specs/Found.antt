-- What the search for lists does with those that it finds.
use Rattle.std.specs.Prelude.{ℤ, ℕ, zero, suc, ◌≡◌, ◌+◌, ◌-◌, ◌≤◌, ◌<◌, List, [], ◌∷◌, ◌++◌, length, map, take, get_or, Option, All, Any, Contains, ⊤}
use Rattle.std.specs.Ordering.{int_eq}
use Rattle.std.specs.List.{flat_map}
use Rattle.std.specs.Cmp.Lexicographic.{pointwise}
use Rattle.std.specs.HashSet.{contains}
use Rattle.cov_base.specs.Sets.{written}
use Rattle.cov_ground.specs.Limits.{most_bins}
use Rattle.std.specs.Prelude.{Vec}
use Rattle.std.specs.Global.{Global}
use Rattle.trans_found.specs.declared.found.Found.{Found}
use Rattle.trans_found.specs.declared.fault.ExpandFault.{ExpandFault}
use Rattle.trans_found.specs.declared.fault.ExpandFault.TheVariants.{Unbounded, TooLong, TooManyBins, Memory}
use Rattle.trans_seq.specs.declared.seq.Item.{Item}
use Rattle.trans_seq.specs.declared.seq.Seq.{Seq}
use Rattle.trans_seq.specs.Windows.{InSeq}
use Rattle.trans_found.specs.Lists.{from_on, lengths, choices, joined, is_among, news, all_of, lists_by_all}

-- what is new in each group, after the groups before it
abbrev pub new_groups : List (List ℤ) → List (List (List ℤ)) → List (List (List ℤ))
new_groups before [] = []
new_groups before (g ∷ gs) = news before g ∷ new_groups (before ++ news before g) gs

-- the groups of an item in front of others: one for each of its lengths and each group behind
abbrev pub fronted : (ℕ → List (List ℤ)) → List (List (List ℤ)) → List ℕ → List (List (List ℤ))
fronted firsts gs ns = flat_map (λ n. map (λ g. joined (firsts n) g) gs) ns

-- the groups of low to high numbers of a set in front of others
abbrev pub in_front : List (ℤ × ℤ) → ℕ → ℕ → List (List (List ℤ)) → List (List (List ℤ))
in_front set low high gs = fronted (choices (written set)) gs (from_on low (high + 1 - low))

-- the groups that aren't empty
abbrev pub packed : List (List (List ℤ)) → List (List (List ℤ))
packed [] = []
packed ([] ∷ gs) = packed gs
packed ((w ∷ ws) ∷ gs) = (w ∷ ws) ∷ packed gs

-- the lists that begin with `first`, go on with so many of the numbers, and end with one of the group
abbrev pub continued : List ℤ → List ℤ → ℕ → List (List ℤ) → List (List ℤ)
continued numbers first zero group = map (λ rest. first ++ rest) group
continued numbers first (suc n) group = flat_map (λ v. continued numbers (first ++ v ∷ []) n group) numbers

-- an item has a list: one of its lengths, and numbers of the set for it
pub record HasList (item : Item) : Type 0 where
  pub size : ℕ
  pub is_length : Contains (lengths item.repeat) size
  pub list : List ℤ
  pub is_choice : Contains (choices (written item.set) size) list

-- an item has none
abbrev pub NoList : Item → Type 0
NoList item = (n : ℕ) → Contains (lengths item.repeat) n → choices (written item.set) n ≡ []

-- ---- lists found so far

-- the lists that were found before
abbrev pub lists_of : Found → List (List ℤ)
lists_of found = all_of found.groups.items ++ found.fresh.items

-- the set of seen lists and the count tell which lists were found, and how many
pub record Holds (found : Found) : Type 0 where
  pub seen : (key : Vec ℤ Global) → contains (λ a b. pointwise int_eq a.items b.items) found.seen key ≡ is_among (lists_of found) key.items
  pub count : found.count ≡ length (lists_of found)
  pub few : found.count ≤ most_bins

-- the lists were tried one after the other, and the new ones among them taken into the open group
pub record Takes (old new : Found) (ws : List (List ℤ)) : Type 0 where
  pub holds : Holds new
  pub groups : new.groups.items ≡ old.groups.items
  pub fresh : new.fresh.items ≡ old.fresh.items ++ news (lists_of old) ws

-- or that failed: for want of memory, or since they are too many
abbrev pub FailsAfter : List (List ℤ) → List (List ℤ) → ExpandFault → Type 0
FailsAfter before ws Unbounded = ⊥
FailsAfter before ws (TooLong cells) = ⊥
FailsAfter before ws (TooManyBins count) = (count ≡ most_bins + 1) × (most_bins < length before + length (news before ws))
FailsAfter before ws Memory = ⊤

-- the open group was closed
pub record Closes (old new : Found) : Type 0 where
  pub holds : Holds new
  pub groups : new.groups.items ≡ old.groups.items ++ packed (old.fresh.items ∷ [])
  pub fresh : new.fresh.items ≡ []

-- groups were tried one after the other, none being open before and after
pub record Extends (old new : Found) (gs : List (List (List ℤ))) : Type 0 where
  pub holds : Holds new
  pub groups : new.groups.items ≡ old.groups.items ++ packed (new_groups (all_of old.groups.items) gs)
  pub fresh : new.fresh.items ≡ []

abbrev pub AllHaveList : List Item → Type 0
AllHaveList items = All HasList items

-- an item among these has no list
abbrev pub SomeNoList : List Item → Type 0
SomeNoList items = Any NoList items

-- ---- sequences, one after the other

-- an earlier sequence has all lists of the one at the place
pub record IsHeldBefore (seqs : List Seq) (place : ℕ) : Type 0 where
  pub first : ℕ
  pub before : first < place
  pub holds : (d : Seq) (w : List (Option ℤ)) → InSeq (get_or seqs place d).items w → InSeq (get_or seqs first d).items w

-- the lists of the sequences up to the place are taken, each once
pub record Merges (seqs : List Seq) (place : ℕ) (found : Found) : Type 0 where
  pub holds : Holds found
  pub groups : found.groups.items ≡ []
  pub fresh : found.fresh.items ≡ news [] (lists_by_all (take place seqs))
