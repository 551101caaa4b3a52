-- Reading events by the greatest value of each signal in place of its width.
use Rattle.std.specs.List.{AllByRecursion, list_all}
use Rattle.std.specs.Prelude.{Bool, ◌≡◌, [], ℕ, ◌-◌, ◌^◌, List, length, map, slice_get, Option, Some, None, Ok, Err, nat_lt, nat_le, ◌==◌, if◌then◌else◌, ok_or}
use Rattle.std.specs.Int.{w8, w16, w64}
use Rattle.cov_ground.specs.Limits.{most_bits}
use Rattle.record_codec.specs.declared.fault.Fault.TheVariants.{BadField}
use Rattle.record_codec.specs.declared.record.SignalRow.{SignalRow}
use Rattle.record_codec.specs.declared.record.InstRow.{InstRow}
use Rattle.record_codec.specs.declared.record.Event.{Event}
use Rattle.record_codec.specs.declared.record.Event.TheVariants.{Set, Sample}
use Rattle.record_codec.specs.Reading.{◌>>=◌, Reader, number_at, number_within, sample_at}

-- the greatest value of so many bits, of most_bits at most
abbrev pub greatest : ℕ → ℕ
greatest width = if nat_le most_bits width then 2 ^ most_bits - 1 else 2 ^ width - 1

abbrev pub limits_of : List SignalRow → List ℕ
limits_of signals = map (λ (row : SignalRow). greatest row.width) signals

unfoldable pub known_under : ℕ → Reader (Option ℕ)
known_under most bytes = do
  bits ← number_within w64 0 most bytes
  Ok (Some bits.0, bits.1)

unfoldable pub value_under : ℕ → Reader (Option ℕ)
value_under most bytes = do
  known ← number_within w8 0 1 bytes
  if known.0 == 0 then Ok (None, known.1) else known_under most known.1

unfoldable pub set_under : List ℕ → Reader Event
set_under limits bytes = do
  signal ← number_at w16 bytes
  most ← ok_or (slice_get limits signal.0) (BadField (length bytes))
  value ← value_under most signal.1
  Ok (Set signal.0 value.0, value.1)

-- a Sample of an instance without arguments, of so many instances
unfoldable pub plain_sample_at : ℕ → Reader Event
plain_sample_at instances bytes = do
  instance ← number_at w16 bytes
  if nat_lt instance.0 instances then Ok (Sample instance.0 [], instance.1) else Err (BadField (length bytes))

unfoldable pub plain_event_under : List ℕ → ℕ → Reader Event
plain_event_under limits instances bytes = do
  tag ← number_within w8 1 2 bytes
  if tag.0 == 1 then set_under limits tag.1 else plain_sample_at instances tag.1

abbrev pub are_without_args : List InstRow → Bool
are_without_args instances = list_all (λ (row : InstRow). length row.args == 0) instances

-- no instance has arguments
abbrev pub HaveNoArgs : List InstRow → Type 0
HaveNoArgs instances = AllByRecursion (λ (row : InstRow). row.args ≡ []) instances

unfoldable pub event_under : List ℕ → List InstRow → Reader Event
event_under limits instances bytes = do
  tag ← number_within w8 1 2 bytes
  if tag.0 == 1 then set_under limits tag.1 else sample_at instances tag.1
