-- The values of the signals and of the arguments at each sample of an instance. A signal is Unknown until it is set
-- (IEEE 1800-2017, 6.8); an instance is sampled at each of its Sample events, with the arguments of that event (19.8.1).
use Rattle.std.specs.Prelude.{ℤ, ℕ, ◌==◌, List, [], ◌∷◌, ◌++◌, map, slice_get, Option, Some, None, option_map, if◌then◌else◌}
use Rattle.std.specs.List.{range_with_len}
use Rattle.bin_spec.specs.Types.{number_of}
use Rattle.cov_ground.specs.Limits.{most_signals, most_arguments}
use Rattle.record_codec.specs.declared.record.Record.{Record}
use Rattle.record_codec.specs.declared.record.SignalRow.{SignalRow}
use Rattle.record_codec.specs.declared.record.ArgRow.{ArgRow}
use Rattle.record_codec.specs.declared.record.InstRow.{InstRow}
use Rattle.record_codec.specs.declared.record.Event.{Event}
use Rattle.record_codec.specs.declared.record.Event.TheVariants.{Set, Sample}

-- The values at one sample, each a whole number or Unknown: at a place below 4,096 that of the signal of this number, at
-- 4,096 + k that of the k-th argument. There are 4,112 places; Unknown stands where there is no signal or argument.
abbrev pub Env : Type 0
Env = List (Option ℤ)

-- the value that the latest Set of the signal gave, the events standing latest first; Unknown where there is none
abbrev pub latest : ℕ → List Event → Option ℕ
latest signal [] = None
latest signal (Set other value ∷ before) = if other == signal then value else latest signal before
latest signal (Sample instance args ∷ before) = latest signal before

abbrev pub signal_value : Option SignalRow → Option ℕ → Option ℤ
signal_value None bits = None
signal_value (Some row) bits = option_map (number_of row.width row.signed) bits

abbrev pub arg_value : Option ArgRow → Option (Option ℕ) → Option ℤ
arg_value None bits = None
arg_value (Some row) None = None
arg_value (Some row) (Some bits) = option_map (number_of row.width row.signed) bits

-- the value of the signal at this place, after events that stand latest first
abbrev pub signal_at : List SignalRow → List Event → ℕ → Option ℤ
signal_at rows before place = signal_value (slice_get rows place) (latest place before)

-- the value of the k-th argument of a sample
abbrev pub arg_at : List ArgRow → List (Option ℕ) → ℕ → Option ℤ
arg_at rows args k = arg_value (slice_get rows k) (slice_get args k)

unfoldable pub env_of : List SignalRow → List ArgRow → List Event → List (Option ℕ) → Env
env_of signals rows before args = map (signal_at signals before) (range_with_len 0 most_signals) ++ map (arg_at rows args) (range_with_len 0 most_arguments)

-- the values at each sample of an instance, after the events `before`, which stand latest first
abbrev pub envs_after : List SignalRow → List ArgRow → ℕ → List Event → List Event → List Env
envs_after signals rows instance before [] = []
envs_after signals rows instance before (Set signal value ∷ events) = envs_after signals rows instance (Set signal value ∷ before) events
envs_after signals rows instance before (Sample sampled args ∷ events) =
    if sampled == instance
    then env_of signals rows before args ∷ envs_after signals rows instance (Sample sampled args ∷ before) events
    else envs_after signals rows instance (Sample sampled args ∷ before) events

-- the arguments of an instance; none where there is no instance
abbrev pub args_of : Option InstRow → List ArgRow
args_of None = []
args_of (Some row) = row.args

-- the values at each sample of the instance, in order
unfoldable pub samples_of : Record → ℕ → List Env
samples_of r instance = envs_after r.signals (args_of (slice_get r.instances instance)) instance [] r.events
