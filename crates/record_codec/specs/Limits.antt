-- What a record's fields may hold.
use Rattle.std.specs.Prelude.{ℕ, ◌<◌, ◌≤◌, ◌^◌, ◌==◌, List, [], ◌∷◌, length, slice_get, Option, IfSome, IsSomeAnd, if◌then◌else◌}
use Rattle.std.specs.List.{AllByRecursion}
use Rattle.std.proofs.Props.{props}
use Rattle.cov_ground.specs.Limits.{longest_record, longest_name, most_events, most_signals, most_instances, most_arguments, most_bits}
use Rattle.record_codec.specs.declared.record.Fields.{Fields}
use Rattle.record_codec.specs.declared.record.SignalRow.{SignalRow}
use Rattle.record_codec.specs.declared.record.ArgRow.{ArgRow}
use Rattle.record_codec.specs.declared.record.InstRow.{InstRow}
use Rattle.record_codec.specs.declared.record.Event.{Event}
use Rattle.record_codec.specs.declared.record.Event.TheVariants.{Set, Sample}
use Rattle.record_codec.specs.Bytes.{bytes_of}

-- bytes of a test's id, and of the name of who ran it
abbrev pub longest_id : ℕ
longest_id = 255

-- a text of a length from least to most, of bytes from low on and below 127
pub record IsText (least most low : ℕ) (text : List ℕ) : Type 0 where
  pub long_enough : least ≤ length text
  pub short_enough : length text ≤ most
  pub bytes : AllByRecursion (λ byte. (low ≤ byte) × (byte < 127)) text

-- an argument's width
pub record IsArgRow (row : ArgRow) : Type 0 where
  pub some : 1 ≤ row.width
  pub width : row.width ≤ most_bits

pub record IsSignalRow (row : SignalRow) : Type 0 where
  pub name : IsText 1 longest_name 33 row.name
  pub some : 1 ≤ row.width
  pub width : row.width ≤ most_bits

-- there are none in version 1
abbrev pub most_args : ℕ → ℕ
most_args version = if version == 1 then 0 else most_arguments

pub record IsInstRow (version : ℕ) (row : InstRow) : Type 0 where
  pub name : IsText 1 longest_name 33 row.name
  pub group : IsText 1 longest_name 33 row.group
  pub arg_count : length row.args ≤ most_args version
  pub args : AllByRecursion IsArgRow row.args

-- a known value has no more bits than this
abbrev pub IsBits : ℕ → Option ℕ → Type 0
IsBits width value = IfSome value (λ bits. bits < 2 ^ width)

-- one value for each argument
abbrev pub AreArgs : List ArgRow → List (Option ℕ) → Type 0
AreArgs [] [] = Unit {0}
AreArgs [] (arg ∷ args) = ⊥
AreArgs (row ∷ rows) [] = ⊥
AreArgs (row ∷ rows) (arg ∷ args) = IsBits row.width arg × AreArgs rows args

-- The numbers of an event are those of rows, a known value has no more bits than its signal, and a Sample has a value for
-- each argument of its instance.
abbrev pub IsEvent : List SignalRow → List InstRow → Event → Type 0
IsEvent signals instances (Set signal value) = IsSomeAnd (slice_get signals signal) (λ row. IsBits row.width value)
IsEvent signals instances (Sample instance args) = IsSomeAnd (slice_get instances instance) (λ row. AreArgs row.args args)

-- a Sample has no more values than there may be arguments
abbrev pub HasFewArgs : Event → Type 0
HasFewArgs (Set signal value) = Unit {0}
HasFewArgs (Sample instance args) = length args ≤ most_arguments

-- what stands before the events
pub record IsStart (r : Fields) : Type 0 where
  pub some : 1 ≤ r.version
  pub version : r.version < 3
  pub id : IsText 1 longest_id 33 r.id
  pub status : r.status < 4
  pub seed : r.seed < 2 ^ 64
  pub time : r.time < 2 ^ 64
  pub user : IsText 0 longest_id 32 r.user
  pub signal_count : length r.signals ≤ most_signals
  pub signals : AllByRecursion IsSignalRow r.signals
  pub instance_count : length r.instances ≤ most_instances
  pub instances : AllByRecursion (IsInstRow r.version) r.instances

pub record IsWithinLimits (r : Fields) : Type 0 where
  pub start : IsStart r
  pub event_count : length r.events ≤ most_events
  pub events : AllByRecursion (IsEvent r.signals r.instances) r.events
  pub short : length (bytes_of r) ≤ longest_record

-- ---- each of these is known in one way at most, as a field of a type must be

pub IsText-prop : (least most low : ℕ) (text : List ℕ) → IsProp (IsText least most low text)
IsText-prop least most low text = hlevel props

pub IsArgRow-prop : (row : ArgRow) → IsProp (IsArgRow row)
IsArgRow-prop row = hlevel props

pub IsSignalRow-prop : (row : SignalRow) → IsProp (IsSignalRow row)
IsSignalRow-prop row = hlevel (props, IsText-prop)

pub IsInstRow-prop : (version : ℕ) (row : InstRow) → IsProp (IsInstRow version row)
IsInstRow-prop version row = hlevel (props, IsText-prop, IsArgRow-prop)

pub AreArgs-prop : (rows : List ArgRow) (args : List (Option ℕ)) → IsProp (AreArgs rows args)
AreArgs-prop [] [] = hlevel props
AreArgs-prop [] (arg ∷ args) = hlevel props
AreArgs-prop (row ∷ rows) [] = hlevel props
AreArgs-prop (row ∷ rows) (arg ∷ args) = hlevel (props, AreArgs-prop rows args)

pub IsEvent-prop : (signals : List SignalRow) (instances : List InstRow) (e : Event) → IsProp (IsEvent signals instances e)
IsEvent-prop signals instances (Set signal value) = hlevel props
IsEvent-prop signals instances (Sample instance args) = hlevel (props, AreArgs-prop)

pub IsStart-prop : (r : Fields) → IsProp (IsStart r)
IsStart-prop r = hlevel (props, IsText-prop, IsSignalRow-prop, IsInstRow-prop)

pub IsWithinLimits-prop : (r : Fields) → IsProp (IsWithinLimits r)
IsWithinLimits-prop r = hlevel (props, IsStart-prop, IsEvent-prop)
