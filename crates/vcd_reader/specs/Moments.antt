-- The moments at which instances are sampled (IEEE 1800-2017, 19.3), and the events of a record that follow.
--
-- A step is compared as a whole: an edge goes from what a signal holds before the step to what it holds behind it
-- (9.4.2), and conditions and sampled values are those before the step.
use Rattle.std.specs.Prelude.{ℤ, ℕ, List, [], ◌∷◌, ◌++◌, ◌+◌, map, slice_index_or, slice_get, nat_eq, not, Option, Some, None, Bool, true, false, if◌then◌else◌}
use mathlib.Core.Bool.{◌&&◌, ◌||◌}
use Rattle.std.specs.List.{list_any}
use Rattle.cov_tree.specs.declared.groups.EdgeKind.{EdgeKind}
use Rattle.cov_tree.specs.declared.groups.EdgeKind.TheVariants.{Any, Pos, Negative, Both}
use Rattle.record_codec.specs.declared.record.SignalRow.{SignalRow}
use Rattle.record_codec.specs.declared.record.Event.{Event}
use Rattle.record_codec.specs.declared.record.Event.TheVariants.{Set, Sample}
use Rattle.record_codec.specs.Samples.{signal_value}
use Rattle.cov_counting.specs.Hits.{holds}
use Rattle.vcd_dump.specs.declared.dump.Bit4.{Bit4}
use Rattle.vcd_dump.specs.declared.dump.Bit4.TheVariants.{Zero, One, X, Z}
use Rattle.vcd_dump.specs.declared.dump.DumpStep.{DumpStep}
use Rattle.vcd_dump.specs.declared.dump.Change.{Change}
use Rattle.vcd_reader.specs.declared.held.Held.{Held}
use Rattle.vcd_reader.specs.declared.watching.Watch.{Watch}
use Rattle.vcd_reader.specs.Held.{unknown, held, shown, applied}

-- ---- edges

abbrev pub is_zero : Bit4 → Bool
is_zero Zero = true
is_zero One = false
is_zero X = false
is_zero Z = false

abbrev pub is_one : Bit4 → Bool
is_one Zero = false
is_one One = true
is_one X = false
is_one Z = false

abbrev pub is_x : Bit4 → Bool
is_x Zero = false
is_x One = false
is_x X = true
is_x Z = false

abbrev pub is_z : Bit4 → Bool
is_z Zero = false
is_z One = false
is_z X = false
is_z Z = true

-- `posedge` (Table 9-2): 0 to another, and x or z to 1
abbrev pub rises : Bit4 → Bit4 → Bool
rises Zero after = not (is_zero after)
rises One after = false
rises X after = is_one after
rises Z after = is_one after

-- `negedge`: 1 to another, and x or z to 0
abbrev pub falls : Bit4 → Bit4 → Bool
falls Zero after = false
falls One after = not (is_one after)
falls X after = is_zero after
falls Z after = is_zero after

abbrev pub same_bit : Bit4 → Bit4 → Bool
same_bit Zero after = is_zero after
same_bit One after = is_one after
same_bit X after = is_x after
same_bit Z after = is_z after

abbrev pub same_value : Option ℕ → Option ℕ → Bool
same_value None None = true
same_value None (Some after) = false
same_value (Some before) None = false
same_value (Some before) (Some after) = nat_eq before after

-- what a signal holds before and after a step makes an edge of this kind
abbrev pub is_edge : EdgeKind → Held → Held → Bool
is_edge Any before after = not (same_value before.value after.value && same_bit before.low after.low)
is_edge Pos before after = rises before.low after.low
is_edge Negative before after = falls before.low after.low
is_edge Both before after = rises before.low after.low || falls before.low after.low

-- ---- values

-- what the signal of this number holds after these changes
abbrev pub held_by_code : Option ℕ → List Change → Held
held_by_code None changes = unknown
held_by_code (Some code) changes = held code changes

abbrev pub signal_held : (codes : List ℕ) → List Change → (signal : ℕ) → Held
signal_held codes changes signal = held_by_code (slice_get codes signal) changes

-- the values of the signals from this number on, as numbers of their types
abbrev pub numbers_from : List SignalRow → (signal : ℕ) → List (Option ℕ) → List (Option ℤ)
numbers_from rows signal [] = []
numbers_from rows signal (value ∷ values) = signal_value (slice_get rows signal) value ∷ numbers_from rows (signal + 1) values

-- the values of the signals after these changes
abbrev pub values_after : (codes : List ℕ) → List Change → List (Option ℕ)
values_after codes changes = map (λ code. (held code changes).value) codes

-- ---- events of a record

-- a Set of each signal from this number on whose value isn't that of its last Set
abbrev pub sets_from : (signal : ℕ) → (last now : List (Option ℕ)) → List Event
sets_from signal last [] = []
sets_from signal [] (value ∷ values) = []
sets_from signal (old ∷ last) (value ∷ values) = (if same_value old value then [] else Set signal value ∷ []) ++ sets_from (signal + 1) last values

abbrev pub has_edge : (before after : ℕ → Held) → Watch → Bool
has_edge before after watch = is_edge watch.kind (before watch.signal) (after watch.signal)

-- an edge between what is held before and after a step, with its condition before the step
abbrev pub matches : (env : List (Option ℤ)) → (before after : ℕ → Held) → Watch → Bool
matches env before after watch = has_edge before after watch && holds watch.guard env

-- a Sample of each instance from this number on that has such an edge
abbrev pub samples_from : (env : List (Option ℤ)) → (before after : ℕ → Held) → (instance : ℕ) → List (List Watch) → List Event
samples_from env before after instance [] = []
samples_from env before after instance (event ∷ events) = (if list_any (matches env before after) event then Sample instance [] ∷ [] else []) ++ samples_from env before after (instance + 1) events

-- ---- all moments

-- the events of a step, and the values of the last Sets behind them
pub record Moment : Type 0 where
  pub events : List Event
  pub last : List (Option ℕ)

-- where no instance is sampled, nothing is set
abbrev pub moment_with : (last now : List (Option ℕ)) → (samples : List Event) → Moment
moment_with last now [] = record { events = []; last = last }
moment_with last now (sample ∷ samples) = record { events = sets_from 0 last now ++ sample ∷ samples; last = now }

unfoldable pub moment_of : List SignalRow → List (List Watch) → (last now : List (Option ℕ)) → (before after : ℕ → Held) → Moment
moment_of rows events last now before after = moment_with last now (samples_from (numbers_from rows 0 now) before after 0 events)

-- the step that changes this behind these changes
abbrev pub moment_at : List SignalRow → (codes : List ℕ) → List (List Watch) → (last : List (Option ℕ)) → (before : List Change) → (more : List Change) → Moment
moment_at rows codes events last before more = moment_of rows events last (values_after codes before) (signal_held codes before) (signal_held codes (before ++ more))

-- the events of these steps behind these changes
unfoldable pub events_from : List SignalRow → (codes : List ℕ) → List (List Watch) → (last : List (Option ℕ)) → (before : List Change) → List DumpStep → List Event
events_from rows codes events last before [] = []
events_from rows codes events last before (step ∷ steps) =
    let moment = moment_at rows codes events last before step.changes in
    moment.events ++ events_from rows codes events moment.last (before ++ step.changes) steps

-- nothing is sampled at the first step, and each signal is Unknown until its first Set
unfoldable pub events_of : List SignalRow → (codes : List ℕ) → List (List Watch) → List DumpStep → List Event
events_of rows codes events [] = []
events_of rows codes events (step ∷ steps) = events_from rows codes events (map (λ code. None) codes) step.changes steps

-- The same, where a table by code shows what the codes hold. The code keeps tables; public contracts cite none of them.
unfoldable pub table_events : List SignalRow → (codes : List ℕ) → List (List Watch) → (last : List (Option ℕ)) → (table : List Held) → List DumpStep → List Event
table_events rows codes events last table [] = []
table_events rows codes events last table (step ∷ steps) =
    let moment = moment_of rows events last (map (λ code. (slice_index_or table code unknown).value) codes) (shown codes table) (shown codes (applied step.changes table)) in
    moment.events ++ table_events rows codes events moment.last (applied step.changes table) steps
