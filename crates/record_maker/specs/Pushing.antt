-- Events pushed behind those that a builder has.
use Rattle.std.specs.Prelude.{List, ◌++◌}
use Rattle.record_codec.specs.declared.record.Event.{Event}
use Rattle.record_codec.specs.declared.record.Start.{Start}
use Rattle.record_codec.specs.declared.builder.RecordBuilder.{RecordBuilder}
use Rattle.record_codec.specs.Builders.{HasPushed}

-- the second builder has what the first one has, and these events behind it
pub record Pushed (before after : RecordBuilder) (more : List Event) : Type 0 where
  pub pushed : (start : Start) (events : List Event) → HasPushed before start events → HasPushed after start (events ++ more)
