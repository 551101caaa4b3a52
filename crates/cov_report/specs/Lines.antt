-- The lines of a report. Each ends with a newline, and numbers are decimal.
use Rattle.std.specs.Prelude.{ℕ, List, [], ◌∷◌, ◌++◌, codes, decimal, Bool, if◌then◌else◌}
use Rattle.ucis_model.specs.declared.answers.CoverRow.{CoverRow}
use Rattle.ucis_model.specs.declared.node.NodeKind.{NodeKind}
use Rattle.ucis_model.specs.declared.node.NodeKind.TheVariants.{Root, CoverGroup, CoverInstance, CoverPoint, Cross, Bin}
use Rattle.store_views.specs.Words.{status_word}

abbrev pub newline : List ℕ
newline = 10 ∷ []

-- how many tests are merged
abbrev pub merge_line : (tests : ℕ) → List ℕ
merge_line tests = codes "MERGE tests " ++ (decimal tests ++ newline)

-- TEST POINT STATUS ID
abbrev pub test_line : (point status : ℕ) → (id : List ℕ) → List ℕ
test_line point status id = codes "TEST " ++ (decimal point ++ 32 ∷ (status_word status ++ 32 ∷ (id ++ newline)))

-- the coverage of all, in millionths
abbrev pub overall_line : ℕ → List ℕ
overall_line millionths = codes "overall " ++ (decimal millionths ++ newline)

abbrev pub goal_word : (met : Bool) → List ℕ
goal_word met = if met then codes "met" else codes "miss"

-- WORD PATH C GOAL, of a type or an instance
abbrev pub cover_line : (word path : List ℕ) → CoverRow → List ℕ
cover_line word path row = word ++ 32 ∷ (path ++ 32 ∷ (decimal row.millionths ++ 32 ∷ (goal_word row.met ++ newline)))

-- COVERED/BINS GOAL
abbrev pub bins_and_goal : CoverRow → List ℕ
bins_and_goal row = decimal row.covered ++ 47 ∷ (decimal row.bins ++ 32 ∷ (goal_word row.met ++ newline))

-- WORD PATH C COVERED/BINS GOAL, of an item
abbrev pub item_line : (word path : List ℕ) → CoverRow → List ℕ
item_line word path row = word ++ 32 ∷ (path ++ 32 ∷ (decimal row.millionths ++ 32 ∷ bins_and_goal row))

abbrev pub item_word : NodeKind → List ℕ
item_word Cross = codes "cross"
item_word CoverPoint = codes "point"
item_word Root = codes "point"
item_word CoverGroup = codes "point"
item_word CoverInstance = codes "point"
item_word (Bin kind) = codes "point"

-- illegal COUNT PATH
abbrev pub illegal_line : (count : ℕ) → (path : List ℕ) → List ℕ
illegal_line count path = codes "illegal " ++ (decimal count ++ 32 ∷ (path ++ newline))
