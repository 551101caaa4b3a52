-- What the record of a dump shows of it: at each moment of an instance the values before the moment's step.
use Rattle.std.specs.Prelude.{ℕ, List, [], ◌∷◌, ◌++◌, map, slice_get, Bool, if◌then◌else◌}
use Rattle.std.specs.List.{range_with_len, list_any}
use Rattle.cov_ground.specs.Limits.{most_signals, most_arguments}
use Rattle.record_codec.specs.declared.record.SignalRow.{SignalRow}
use Rattle.record_codec.specs.declared.record.ArgRow.{ArgRow}
use Rattle.record_codec.specs.Samples.{Env, signal_value, arg_at}
use Rattle.vcd_dump.specs.declared.dump.Change.{Change}
use Rattle.vcd_dump.specs.declared.dump.DumpStep.{DumpStep}
use Rattle.vcd_reader.specs.declared.watching.Watch.{Watch}
use Rattle.vcd_reader.specs.Moments.{signal_held, numbers_from, values_after, matches}

-- the values of the signals after these changes, with no argument
unfoldable pub env_after : List SignalRow → List ArgRow → (codes : List ℕ) → List Change → Env
env_after rows args codes before = map (λ place. signal_value (slice_get rows place) (signal_held codes before place).value) (range_with_len 0 most_signals) ++ map (arg_at args []) (range_with_len 0 most_arguments)

-- whether the step that changes this behind these changes is a moment of an event
abbrev pub is_moment : List SignalRow → (codes : List ℕ) → List Watch → (before more : List Change) → Bool
is_moment rows codes event before more = list_any (matches (numbers_from rows 0 (values_after codes before)) (signal_held codes before) (signal_held codes (before ++ more))) event

-- the values before each moment of an event, in order, behind these changes
unfoldable pub moments_from : List SignalRow → List ArgRow → (codes : List ℕ) → List Watch → (before : List Change) → List DumpStep → List Env
moments_from rows args codes event before [] = []
moments_from rows args codes event before (step ∷ steps) = (if is_moment rows codes event before step.changes then env_after rows args codes before ∷ [] else []) ++ moments_from rows args codes event (before ++ step.changes) steps

-- the first step is no moment
unfoldable pub moments_of : List SignalRow → List ArgRow → (codes : List ℕ) → List Watch → List DumpStep → List Env
moments_of rows args codes event [] = []
moments_of rows args codes event (step ∷ steps) = moments_from rows args codes event step.changes steps
