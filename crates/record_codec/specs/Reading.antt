-- Reading a record, version 1 or 2, from its bytes, with the first fault that is met.
--
-- The bytes are read from left to right, field by field, in the order: letters, version, id, status, seed, time, user,
-- signals, instances, events. The first field that refuses decides, and what stands behind it isn't looked at. A number
-- is a field; a text begins with its length, and the length and the bytes are one field. For a number these are tried
-- in this order: it runs past the end of the bytes (Short), it is out of its range (BadField; of the version BadVersion,
-- of the letters BadMagic, of the number of events TooManyEvents). For a text: its length runs past the end (Short), the
-- length is out of its range (BadField), the bytes run past the end (Short), a byte is out of its range (BadField, of
-- the first such byte). The number of a signal or an instance is out of its range where no row has it. Version 1 has no
-- arguments: nothing stands for them in an instance or a Sample. Behind the last event the bytes end (else Trailing).
--
-- The place of a fault is the number of bytes before the first byte of the field: before the byte itself where a byte of
-- a text is out of its range, before the length where the text runs past the end. In the parts below it is told
-- by the number of bytes that are left at that place, its own among them; `reading` counts it from the front.
use Rattle.std.specs.Prelude.{◌≡◌, ℕ, zero, suc, ◌-◌, ◌^◌, List, [], ◌∷◌, ◌++◌, length, take, drop, slice_get, slice_index, ◌<◌, Option, Some, None, Result, Ok, Err, Bool, nat_lt, nat_le, ◌==◌, ◌||◌, if◌then◌else◌, ok_or}
use mathlib.Core.Bool.{◌&&◌}
use Rattle.std.specs.List.{position}
use Rattle.std.specs.Int.{Width, w8, w16, w32, w64, byte_len, from_be_bytes}
use Rattle.record_codec.specs.declared.fault.Fault.{Fault}
use Rattle.record_codec.specs.declared.fault.Fault.TheVariants.{Short, BadMagic, BadVersion, BadField, TooManyEvents, Trailing, Memory}
use Rattle.record_codec.specs.declared.fault.RecordFault.{RecordFault}
use Rattle.record_codec.specs.declared.fault.RecordFault.TheVariants as refusals
use Rattle.record_codec.specs.declared.record.Record.{Record}
use Rattle.record_codec.specs.declared.record.Fields.{Fields}
use Rattle.record_codec.specs.declared.record.TestRow.{TestRow}
use Rattle.record_codec.specs.declared.record.SignalRow.{SignalRow}
use Rattle.record_codec.specs.declared.record.ArgRow.{ArgRow}
use Rattle.record_codec.specs.declared.record.InstRow.{InstRow}
use Rattle.record_codec.specs.declared.record.Event.{Event}
use Rattle.record_codec.specs.declared.record.Event.TheVariants.{Set, Sample}
use Rattle.record_codec.specs.Spelling.{fields_of}
use Rattle.cov_ground.specs.Limits.{longest_name, most_events, most_signals, most_instances, most_arguments, most_bits}
use Rattle.record_codec.specs.Limits.{longest_id}

-- numbers that fit in a byte
abbrev pub AreBytes : List ℕ → Type 0
AreBytes bytes = (at : ℕ) → slice_index bytes at < 256

infixl 10 ◌>>=◌
abbrev pub ◌>>=◌ : {A B : Type 0} → Result A Fault → (A → Result B Fault) → Result B Fault
(Ok x) >>= f = f x
(Err e) >>= f = Err e

-- What a function returned, seen by view, is what reading gives, unless memory ran out.
abbrev pub Fails : {Y : Type 0} → Fault → Result Y Fault → Type 0
Fails Memory read = Unit {0}
Fails (Short left) read = read ≡ Err (Short left)
Fails BadMagic read = read ≡ Err BadMagic
Fails (BadVersion version) read = read ≡ Err (BadVersion version)
Fails (BadField left) read = read ≡ Err (BadField left)
Fails (TooManyEvents count) read = read ≡ Err (TooManyEvents count)
Fails (Trailing left) read = read ≡ Err (Trailing left)

abbrev pub Gives : {X Y : Type 0} → (X → Y) → Result X Fault → Result Y Fault → Type 0
Gives view (Ok x) read = read ≡ Ok (view x)
Gives view (Err e) read = Fails e read

-- A field is a value and the bytes behind it.
abbrev pub Reader : Type 0 → Type 0
Reader A = List ℕ → Result (A × List ℕ) Fault

abbrev pub number_at : Width → Reader ℕ
number_at w bytes = if nat_lt (length bytes) (byte_len w) then Err (Short (length bytes)) else Ok (from_be_bytes w (take (byte_len w) bytes), drop (byte_len w) bytes)

-- a number from least to most, both included
unfoldable pub number_within : Width → ℕ → ℕ → Reader ℕ
number_within w least most bytes = do
  n ← number_at w bytes
  if nat_le least n.0 && nat_le n.0 most then Ok n else Err (BadField (length bytes))

-- no byte of a text whose bytes are from low on
abbrev pub is_bad : ℕ → ℕ → Bool
is_bad low byte = nat_lt byte low || nat_le 127 byte

-- the text of this length, where no byte of it is bad
abbrev pub unless_bad : Option ℕ → ℕ → Reader (List ℕ)
unless_bad None count bytes = Ok (take count bytes, drop count bytes)
unless_bad (Some bad) count bytes = Err (BadField (length bytes - bad))

-- A text begins at its length.
unfoldable pub text_at : ℕ → ℕ → ℕ → Reader (List ℕ)
text_at least most low bytes = do
  n ← number_within w16 least most bytes
  if nat_lt (length n.1) n.0 then Err (Short (length bytes)) else unless_bad (position (is_bad low) (take n.0 n.1)) n.0 n.1

-- the letters CVRC and the version
unfoldable pub version_at : Reader ℕ
version_at bytes = do
  version ← number_at w16 bytes
  if nat_le 1 version.0 && nat_le version.0 2 then Ok version else Err (BadVersion version.0)

unfoldable pub head_at : Reader ℕ
head_at bytes = do
  magic ← number_at w32 bytes
  if magic.0 == 0x43565243 then version_at magic.1 else Err BadMagic

unfoldable pub test_at : Reader TestRow
test_at bytes = do
  id ← text_at 1 longest_id 33 bytes
  status ← number_within w8 0 3 id.1
  seed ← number_at w64 status.1
  time ← number_at w64 seed.1
  user ← text_at 0 longest_id 32 time.1
  Ok (record { id = id.0; status = status.0; seed = seed.0; time = time.0; user = user.0 }, user.1)

-- one more of what is read, behind those in front
abbrev pub appended : {A : Type 0} → List A → Result (A × List ℕ) Fault → Result (List A × List ℕ) Fault
appended front read = do
  row ← read
  Ok (front ++ row.0 ∷ [], row.1)

-- so many of what is read
unfoldable pub counted : {A : Type 0} → Reader A → ℕ → Reader (List A)
counted read zero bytes = Ok ([], bytes)
counted read (suc n) bytes = do
  first ← read bytes
  others ← counted read n first.1
  Ok (first.0 ∷ others.0, others.1)

-- the width and the sign of a signal or an argument
unfoldable pub arg_at : Reader ArgRow
arg_at bytes = do
  width ← number_within w8 1 most_bits bytes
  sign ← number_within w8 0 1 width.1
  Ok (record { width = width.0; signed = sign.0 == 1 }, sign.1)

unfoldable pub signal_at : Reader SignalRow
signal_at bytes = do
  name ← text_at 1 longest_name 33 bytes
  form ← arg_at name.1
  Ok (record { name = name.0; width = form.0.width; signed = form.0.signed }, form.1)

unfoldable pub signals_at : Reader (List SignalRow)
signals_at bytes = do
  n ← number_within w16 0 most_signals bytes
  counted signal_at n.0 n.1

-- the arguments of an instance; in version 1 nothing stands for them
unfoldable pub listed_args_at : Reader (List ArgRow)
listed_args_at bytes = do
  n ← number_within w8 0 most_arguments bytes
  counted arg_at n.0 n.1

unfoldable pub args_at : ℕ → Reader (List ArgRow)
args_at version bytes = if version == 1 then Ok ([], bytes) else listed_args_at bytes

unfoldable pub instance_at : ℕ → Reader InstRow
instance_at version bytes = do
  name ← text_at 1 longest_name 33 bytes
  group ← text_at 1 longest_name 33 name.1
  args ← args_at version group.1
  Ok (record { name = name.0; group = group.0; args = args.0 }, args.1)

unfoldable pub instances_at : ℕ → Reader (List InstRow)
instances_at version bytes = do
  n ← number_within w16 0 most_instances bytes
  counted (instance_at version) n.0 n.1

-- a value of this many bits, which is Unknown behind a 0
unfoldable pub known_at : ℕ → Reader (Option ℕ)
known_at width bytes = do
  bits ← number_within w64 0 (2 ^ width - 1) bytes
  Ok (Some bits.0, bits.1)

unfoldable pub value_at : ℕ → Reader (Option ℕ)
value_at width bytes = do
  known ← number_within w8 0 1 bytes
  if known.0 == 0 then Ok (None, known.1) else known_at width known.1

unfoldable pub set_at : List SignalRow → Reader Event
set_at signals bytes = do
  signal ← number_at w16 bytes
  row ← ok_or (slice_get signals signal.0) (BadField (length bytes))
  value ← value_at row.width signal.1
  Ok (Set signal.0 value.0, value.1)

-- the values of these arguments
unfoldable pub values_at : List ArgRow → Reader (List (Option ℕ))
values_at [] bytes = Ok ([], bytes)
values_at (row ∷ rows) bytes = do
  first ← value_at row.width bytes
  others ← values_at rows first.1
  Ok (first.0 ∷ others.0, others.1)

unfoldable pub sample_at : List InstRow → Reader Event
sample_at instances bytes = do
  instance ← number_at w16 bytes
  row ← ok_or (slice_get instances instance.0) (BadField (length bytes))
  args ← values_at row.args instance.1
  Ok (Sample instance.0 args.0, args.1)

unfoldable pub event_at : List SignalRow → List InstRow → Reader Event
event_at signals instances bytes = do
  tag ← number_within w8 1 2 bytes
  if tag.0 == 1 then set_at signals tag.1 else sample_at instances tag.1

unfoldable pub events_at : List SignalRow → List InstRow → Reader (List Event)
events_at signals instances bytes = do
  n ← number_at w32 bytes
  if nat_lt most_events n.0 then Err (TooManyEvents n.0) else counted (event_at signals instances) n.0 n.1

unfoldable pub record_at : Reader Fields
record_at bytes = do
  version ← head_at bytes
  test ← test_at version.1
  signals ← signals_at test.1
  instances ← instances_at version.0 signals.1
  events ← events_at signals.0 instances.0 instances.1
  Ok (record { version = version.0; id = test.0.id; status = test.0.status; seed = test.0.seed; time = test.0.time; user = test.0.user; signals = signals.0; instances = instances.0; events = events.0 }, events.1)

-- the record that is all of the bytes
unfoldable pub whole : List ℕ → Result Fields Fault
whole bytes = do
  r ← record_at bytes
  if length r.1 == 0 then Ok r.0 else Err (Trailing (length r.1))

-- ---- places from the front

-- the fault in so many bytes
abbrev pub told : ℕ → Fault → RecordFault
told total (Short left) = refusals.Short (total - left)
told total BadMagic = refusals.BadMagic
told total (BadVersion version) = refusals.BadVersion version
told total (BadField left) = refusals.BadField (total - left)
told total (TooManyEvents count) = refusals.TooManyEvents count
told total (Trailing left) = refusals.Trailing (total - left)
told total Memory = refusals.Memory

abbrev pub from_front : {A : Type 0} → ℕ → Result A Fault → Result A RecordFault
from_front total (Ok x) = Ok x
from_front total (Err fault) = Err (told total fault)

-- the fields of the record that is all of the bytes, or the first fault
unfoldable pub reading : List ℕ → Result Fields RecordFault
reading bytes = from_front (length bytes) (whole bytes)

-- the first fault of bytes that are no record
abbrev pub HasFault : List ℕ → RecordFault → Type 0
HasFault bytes fault = reading bytes ≡ Err fault

-- A call read this: its record has these fields, or its fault is this one; want of memory alone is free.
abbrev pub HasRead : Result Record RecordFault → Result Fields RecordFault → Type 0
HasRead (Ok r) read = read ≡ Ok (fields_of r)
HasRead (Err (refusals.Short at)) read = read ≡ Err (refusals.Short at)
HasRead (Err refusals.BadMagic) read = read ≡ Err refusals.BadMagic
HasRead (Err (refusals.BadVersion version)) read = read ≡ Err (refusals.BadVersion version)
HasRead (Err (refusals.BadField at)) read = read ≡ Err (refusals.BadField at)
HasRead (Err (refusals.TooManyEvents count)) read = read ≡ Err (refusals.TooManyEvents count)
HasRead (Err (refusals.Trailing at)) read = read ≡ Err (refusals.Trailing at)
HasRead (Err refusals.Memory) read = Unit {0}
