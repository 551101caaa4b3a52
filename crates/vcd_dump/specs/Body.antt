-- The changes of a dump, in steps of equal time (IEEE 1800-2017, 21.7.2.4).
use Rattle.std.specs.Prelude.{ℕ, List, [], ◌∷◌, ◌++◌, codes, nat_lt, ◌==◌, ◌||◌, Result, Ok, Err, Bool, true, if◌then◌else◌}
use Rattle.vcd_dump.specs.declared.fault.Fault.{Fault}
use Rattle.vcd_dump.specs.declared.fault.Fault.TheVariants.{TimeBack}
use Rattle.vcd_dump.specs.declared.dump.Change.{Change}
use Rattle.vcd_dump.specs.declared.dump.DumpStep.{DumpStep}
use Rattle.vcd_dump.specs.declared.packing.Item.{Item}
use Rattle.vcd_dump.specs.declared.packing.Item.TheVariants.{Begins, Changes}
use Rattle.vcd_dump.specs.declared.body.Body.{Body}
use Rattle.vcd_dump.specs.declared.body.Kind.{Kind}
use Rattle.vcd_dump.specs.declared.body.Kind.TheVariants.{Time, Vector, Skipped, Scalar, Mark, Comment, Other}
use Rattle.vcd_dump.specs.Values.{is_digit}
use Rattle.vcd_dump.specs.Header.{is}

-- a word that is skipped by itself
abbrev pub is_mark : List ℕ → Bool
is_mark text = is text (codes "$end") || is text (codes "$dumpvars") || is text (codes "$dumpall") || is text (codes "$dumpon") || is text (codes "$dumpoff")

abbrev pub command : List ℕ → Kind
command text = if is text (codes "$comment") then Comment else if is_mark text then Mark else Other

-- what a word among the changes begins with
abbrev pub kind_by : ℕ → List ℕ → Kind
kind_by first text =
    if first == 35 then Time
    else if is_digit first then Scalar
    else if first == 98 || first == 66 then Vector
    else if first == 114 || first == 82 || first == 115 || first == 83 then Skipped
    else command text

unfoldable pub kind_of : List ℕ → Kind
kind_of [] = Other
kind_of (first ∷ text) = kind_by first (first ∷ text)

-- a step of this time stands open
abbrev pub begun_at : ℕ → Body → Body
begun_at time b = record { items = b.items ++ Begins time ∷ []; begun = true; time = time }

-- a time begins a step where it is above that of the step before; it stands in a word with so many bytes left
unfoldable pub at_time : ℕ → ℕ → Body → Result Body Fault
at_time left time b =
    if b.begun
    then if nat_lt time b.time then Err (TimeBack left) else if time == b.time then Ok b else Ok (begun_at time b)
    else Ok (begun_at time b)

-- a change in the step that stands open, which is that at time 0 before the first time
unfoldable pub with_change : Change → Body → Body
with_change change b = record b { items = b.items ++ Changes change ∷ []; begun = true }

-- the changes before the next time
abbrev pub changes_of : List Item → List Change
changes_of [] = []
changes_of (Begins time ∷ items) = []
changes_of (Changes change ∷ items) = change ∷ changes_of items

-- a step for each time
abbrev pub steps_begun : List Item → List DumpStep
steps_begun [] = []
steps_begun (Begins time ∷ items) = record { time = time; changes = changes_of items } ∷ steps_begun items
steps_begun (Changes change ∷ items) = steps_begun items

-- all steps: changes before the first time are a step at time 0
unfoldable pub steps_of : List Item → List DumpStep
steps_of [] = []
steps_of (Begins time ∷ items) = steps_begun (Begins time ∷ items)
steps_of (Changes change ∷ items) = record { time = 0; changes = change ∷ changes_of items } ∷ steps_begun items
