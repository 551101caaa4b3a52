-- Sums by which damage to a journal is seen: one for each item, over the item and the sum before it.
use Rattle.std.specs.Prelude.{List, [], ◌∷◌, ◌++◌, ℕ}
use Rattle.sha2.specs.Sha256.{sha256}
use Rattle.journal_bytes.specs.Items.{Item, head_of}

-- the sum of an item behind one with this sum
abbrev pub sum_behind : (before : List ℕ) → Item → List ℕ
sum_behind before item = sha256 (before ++ (head_of item ++ sha256 item.content))

-- the sum of the last of these items, where this one stands before the first
abbrev pub sum_of : (before : List ℕ) → List Item → List ℕ
sum_of before [] = before
sum_of before (item ∷ more) = sum_of (sum_behind before item) more

-- the sums of all of them, one behind another
abbrev pub sums_of : (before : List ℕ) → List Item → List ℕ
sums_of before [] = []
sums_of before (item ∷ more) = sum_behind before item ++ sums_of (sum_behind before item) more
