-- What is made of a start and events.
use Rattle.std.specs.Prelude.{◌≡◌, ◌<◌, ◌≤◌, List, length, Result, Ok, Err}
use Rattle.cov_ground.specs.Limits.{longest_record, most_events}
use Rattle.record_codec.specs.declared.record.Record.{Record}
use Rattle.record_codec.specs.declared.record.Start.{Start}
use Rattle.record_codec.specs.declared.record.Event.{Event}
use Rattle.record_codec.specs.declared.making.MakeFault.{MakeFault}
use Rattle.record_codec.specs.declared.making.MakeFault.TheVariants.{TooManyEvents, TooLong, Memory}
use Rattle.record_codec.specs.Builders.{told}
use Rattle.record_codec.specs.Spelling.{fields_of}
use Rattle.record_codec.specs.Starts.{with_events, size_with}

-- Their record; or the number of all events, where these are too many; or else the number of all the record's bytes, where
-- these are too many. Want of memory alone is free.
abbrev pub Makes : Start → List Event → Result Record MakeFault → Type 0
Makes start events (Ok r) = fields_of r ≡ with_events start events
Makes start events (Err (TooManyEvents n)) = (most_events < length events) × (n ≡ length events)
Makes start events (Err (TooLong n)) = (length events ≤ most_events) × (longest_record < size_with start events) × (n ≡ told (size_with start events))
Makes start events (Err Memory) = Unit {0}
