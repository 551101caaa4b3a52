-- A record made from its fields.
use Rattle.std.specs.Prelude.{◌≡◌, ◌<◌, ◌≤◌, length, Result, Ok, Err}
use Rattle.cov_ground.specs.Limits.{longest_record, most_events}
use Rattle.record_codec.specs.declared.record.Record.{Record}
use Rattle.record_codec.specs.declared.record.Fields.{Fields}
use Rattle.record_codec.specs.declared.making.MakeFault.{MakeFault}
use Rattle.record_codec.specs.declared.making.MakeFault.TheVariants.{TooManyEvents, TooLong, Memory}
use Rattle.record_codec.specs.Bytes.{bytes_of}
use Rattle.record_codec.specs.Spelling.{fields_of}

-- What is made of these fields: their record; or the number of their events, where these are too many; or else that of
-- their bytes, where these are too many. Want of memory alone is free.
abbrev pub Makes : Fields → Result Record MakeFault → Type 0
Makes f (Ok r) = fields_of r ≡ f
Makes f (Err (TooManyEvents n)) = (most_events < length f.events) × (n ≡ length f.events)
Makes f (Err (TooLong n)) = (length f.events ≤ most_events) × (longest_record < length (bytes_of f)) × (n ≡ length (bytes_of f))
Makes f (Err Memory) = Unit {0}
