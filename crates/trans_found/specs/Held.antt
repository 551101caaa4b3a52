-- Lists with one number of each of several sets, and what is known of those that are found.
use Rattle.std.specs.Prelude.{◌≡◌, ℤ, List, [], ◌∷◌, ◌++◌, map, true, Some}
use Rattle.std.specs.Ordering.{int_eq}
use Rattle.std.specs.List.{flat_map}
use Rattle.std.specs.HashMap.{get}
use Rattle.cov_base.specs.Sets.{written, is_in}
use Rattle.trans_seq.specs.declared.seq.Item.{Item}
use Rattle.trans_seq.specs.declared.seq.Repeat.TheVariants.{Once}
use Rattle.trans_found.specs.declared.held.Held.{Held}
use Rattle.trans_found.specs.declared.held.Known.{Known}
use Rattle.trans_found.specs.Lists.{is_among}

-- each list with one number of each item's set, the last one running fastest
abbrev pub words : List Item → List (List ℤ)
words [] = [] ∷ []
words (item ∷ items) = flat_map (λ v. map (λ rest. v ∷ rest) (words items)) (written item.set)

-- these lists behind the numbers of first
abbrev pub begun : List ℤ → List Item → List (List ℤ)
begun first items = map (λ rest. first ++ rest) (words items)

-- and with one of the numbers between
abbrev pub begun_by : List ℤ → List ℤ → List Item → List (List ℤ)
begun_by first numbers items = flat_map (λ v. begun (first ++ v ∷ []) items) numbers

-- the same values, once
abbrev pub once : Item → Item
once item = record { set = item.set; repeat = Once }

-- some lists are all among others
abbrev pub HasAll : List (List ℤ) → List (List ℤ) → Type 0
HasAll lists some = (w : List ℤ) → is_among some w ≡ true → is_among lists w ≡ true

-- each of the numbers is among the others
abbrev pub IsPart : List ℤ → List ℤ → Type 0
IsPart numbers others = (v : ℤ) → is_in numbers v ≡ true → is_in others v ≡ true

-- what is kept of the lists that are found is among them
abbrev pub AreHeld : Known → List (List ℤ) → Type 0
AreHeld known lists = (mark : ℤ) (held : Held) → get int_eq known.kept mark ≡ Some held → HasAll lists (begun_by held.first (written held.numbers) held.rest)

-- with the lists that have these numbers or the others between the first ones and the rest, more is kept
abbrev pub Keeps : Known → Known → List ℤ → List ℤ → List ℤ → List Item → Type 0
Keeps old new first numbers others rest = (lists : List (List ℤ)) → AreHeld old lists → HasAll lists (begun_by first numbers rest) → HasAll lists (begun_by first others rest) → AreHeld new lists
