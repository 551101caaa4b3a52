-- A record made event by event.
use Rattle.std.specs.Prelude.{◌≡◌, ℕ, ◌-◌, ◌^◌, ◌<◌, ◌≤◌, min, List, [], ◌∷◌, ◌++◌, length, Result, Ok, Err}
use Rattle.cov_ground.specs.Limits.{longest_record, most_events}
use Rattle.record_codec.specs.declared.record.Record.{Record}
use Rattle.record_codec.specs.declared.record.Start.{Start}
use Rattle.record_codec.specs.declared.record.Event.{Event}
use Rattle.record_codec.specs.declared.builder.RecordBuilder.{RecordBuilder}
use Rattle.record_codec.specs.declared.making.MakeFault.{MakeFault}
use Rattle.record_codec.specs.declared.making.MakeFault.TheVariants.{TooManyEvents, TooLong, Memory}
use Rattle.record_codec.specs.declared.making.StartFault.{StartFault}
use Rattle.record_codec.specs.declared.making.StartFault.TheVariants as starts
use Rattle.record_codec.specs.declared.making.PushFault.{PushFault}
use Rattle.record_codec.specs.declared.making.PushFault.TheVariants as pushes
use Rattle.record_codec.specs.Limits.{IsStart, IsEvent}
use Rattle.record_codec.specs.Spelling.{fields_of}
use Rattle.record_codec.specs.Starts.{with_events, size_with}

-- a number as it is told, which is 2^64 - 1 at most
abbrev pub told : ℕ → ℕ
told n = min n (2 ^ 64 - 1)

-- The builder was begun with this start, and these events were pushed since, in order. It knows how many they are and
-- how many bytes the whole record has; it keeps the events themselves as long as both are within their limits.
pub record HasPushed (b : RecordBuilder) (start : Start) (events : List Event) : Type 0 where
  pub begun : b.start ≡ start
  pub count : b.count ≡ told (length events)
  pub size : b.size ≡ told (size_with start events)
  pub kept : length events ≤ most_events → size_with start events ≤ longest_record → b.kept.items ≡ events

-- A builder is begun exactly where the start is within its limits. Want of memory alone is free.
abbrev pub Begins : Start → Result RecordBuilder StartFault → Type 0
Begins start (Ok b) = IsStart (with_events start []) × HasPushed b start []
Begins start (Err starts.BeyondLimits) = IsStart (with_events start []) → ⊥
Begins start (Err starts.Memory) = Unit {0}

-- An event is pushed exactly where it is one of the start's signals and instances; else, or where memory ran out, those
-- pushed are as before.
abbrev pub Pushes : Start → List Event → Event → RecordBuilder → Result (Unit {0}) PushFault → Type 0
Pushes start events event b (Ok done) = IsEvent start.signals start.instances event × HasPushed b start (events ++ event ∷ [])
Pushes start events event b (Err pushes.OtherTables) = (IsEvent start.signals start.instances event → ⊥) × HasPushed b start events
Pushes start events event b (Err pushes.Memory) = HasPushed b start events

-- What is made of them: their record; or how many events were pushed, where these are too many; or else how many bytes
-- the record would have, where these are too many. No memory is wanted for it.
abbrev pub Finishes : Start → List Event → Result Record MakeFault → Type 0
Finishes start events (Ok r) = fields_of r ≡ with_events start events
Finishes start events (Err (TooManyEvents n)) = (most_events < length events) × (n ≡ told (length events))
Finishes start events (Err (TooLong n)) = (length events ≤ most_events) × (longest_record < size_with start events) × (n ≡ told (size_with start events))
Finishes start events (Err Memory) = ⊥
