-- What a record says before its events.
use Rattle.std.specs.Prelude.{◌≡◌, ℕ, ◌<◌, ◌≤◌, List, [], length}
use Rattle.std.specs.List.{AllByRecursion}
use Rattle.std.proofs.Props.{props}
use Rattle.cov_ground.specs.Limits.{longest_record, most_events}
use Rattle.record_codec.specs.declared.record.Start.{Start}
use Rattle.record_codec.specs.declared.record.Event.{Event}
use Rattle.record_codec.specs.declared.record.Fields.{Fields}
use Rattle.record_codec.specs.Bytes.{bytes_of}
use Rattle.record_codec.specs.Limits.{longest_id, IsText, IsStart, IsStart-prop, IsEvent, IsEvent-prop}

-- the fields of the record that begins so and has these events
abbrev pub with_events : Start → List Event → Fields
with_events s events = record { version = s.version; id = s.id; status = s.status; seed = s.seed; time = s.time; user = s.user; signals = s.signals; instances = s.instances; events = events }

-- how many bytes that record has
abbrev pub size_with : Start → List Event → ℕ
size_with s events = length (bytes_of (with_events s events))

-- what tells a test
pub record IsTest (s : Start) : Type 0 where
  pub some : 1 ≤ s.version
  pub version : s.version < 3
  pub id : IsText 1 longest_id 33 s.id
  pub status : s.status < 4
  pub user : IsText 0 longest_id 32 s.user

-- A count and a size that are those of a record with the events that are kept, unless one of them is above its limit.
pub record IsSound (s : Start) (kept : List Event) (count size : ℕ) : Type 0 where
  pub start : IsStart (with_events s [])
  pub events : AllByRecursion (IsEvent s.signals s.instances) kept
  pub many : count ≤ most_events → size ≤ longest_record → length kept ≡ count
  pub long : count ≤ most_events → size ≤ longest_record → size_with s kept ≡ size

pub IsSound-prop : (s : Start) (kept : List Event) (count size : ℕ) → IsProp (IsSound s kept count size)
IsSound-prop s kept count size = hlevel (props, IsStart-prop, IsEvent-prop)
