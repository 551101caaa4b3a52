-- The values along a record's events: a place for each signal, and behind them one for each argument.
use Rattle.std.specs.Prelude.{◌≡◌, ℤ, ℕ, ◌+◌, ◌<◌, List, length, slice_index_or, Option, None}
use Rattle.cov_ground.specs.Limits.{most_signals, most_arguments}
use Rattle.record_codec.specs.Samples.{signal_at, arg_at}
use Rattle.record_codec.specs.declared.record.SignalRow.{SignalRow}
use Rattle.record_codec.specs.declared.record.ArgRow.{ArgRow}
use Rattle.record_codec.specs.declared.record.Event.{Event}

abbrev pub places : ℕ
places = most_signals + most_arguments

-- the first places have the signals' values after events that stand latest first, and in the others nothing is known
pub record Holds (rows : List SignalRow) (before : List Event) (values : List (Option ℤ)) : Type 0 where
  pub same : length values ≡ places
  pub at : (s : ℕ) → s < most_signals → slice_index_or values s None ≡ signal_at rows before s
  pub blank : (k : ℕ) → k < most_arguments → slice_index_or values (most_signals + k) None ≡ None

-- the first n of the last places have the arguments' values, and the signals' are as before
pub record Writes (rows : List ArgRow) (args : List (Option ℕ)) (old new : List (Option ℤ)) (n : ℕ) : Type 0 where
  pub same : length new ≡ length old
  pub below : (s : ℕ) → s < most_signals → slice_index_or new s None ≡ slice_index_or old s None
  pub at : (k : ℕ) → k < n → slice_index_or new (most_signals + k) None ≡ arg_at rows args k
