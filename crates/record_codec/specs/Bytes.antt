-- How the fields of a record are spelled: one list of bytes. Numbers have their highest byte first. Arguments stand in
-- the table of instances from version 2 on.
use Rattle.std.specs.Prelude.{ℕ, List, [], ◌∷◌, ◌++◌, length, Option, Some, None, Bool, ◌==◌, if◌then◌else◌}
use Rattle.std.specs.List.{flat_map}
use Rattle.std.specs.Int.{w16, w32, w64, to_be_bytes}
use Rattle.record_codec.specs.declared.record.SignalRow.{SignalRow}
use Rattle.record_codec.specs.declared.record.ArgRow.{ArgRow}
use Rattle.record_codec.specs.declared.record.InstRow.{InstRow}
use Rattle.record_codec.specs.declared.record.Event.{Event}
use Rattle.record_codec.specs.declared.record.Event.TheVariants.{Set, Sample}
use Rattle.record_codec.specs.declared.record.Fields.{Fields}

-- its length in two bytes, and the text
abbrev pub text : List ℕ → List ℕ
text bytes = to_be_bytes w16 (length bytes) ++ bytes

abbrev pub flag : Bool → ℕ
flag b = if b then 1 else 0

-- width and sign
abbrev pub arg_row : ArgRow → List ℕ
arg_row row = row.width ∷ flag row.signed ∷ []

-- name, width and sign
abbrev pub signal_row : SignalRow → List ℕ
signal_row row = text row.name ++ arg_row (record { width = row.width; signed = row.signed })

-- how many arguments there are, and their widths and signs; nothing in version 1
abbrev pub arg_table : ℕ → List ArgRow → List ℕ
arg_table version args = if version == 1 then [] else length args ∷ flat_map arg_row args

-- name, group and arguments
abbrev pub inst_row : ℕ → InstRow → List ℕ
inst_row version row = text row.name ++ (text row.group ++ arg_table version row.args)

-- a 1 and the value where it is known, a 0 where it is Unknown
abbrev pub set_value : Option ℕ → List ℕ
set_value None = 0 ∷ []
set_value (Some bits) = 1 ∷ to_be_bytes w64 bits

-- a 1, the signal and its value; or a 2, the instance and the values of its arguments
abbrev pub event : Event → List ℕ
event (Set signal value) = 1 ∷ (to_be_bytes w16 signal ++ set_value value)
event (Sample instance args) = 2 ∷ (to_be_bytes w16 instance ++ flat_map set_value args)

-- the letters CVRC and the version
abbrev pub head : ℕ → List ℕ
head version = 67 ∷ 86 ∷ 82 ∷ 67 ∷ to_be_bytes w16 version

abbrev pub signal_table : List SignalRow → List ℕ
signal_table rows = to_be_bytes w16 (length rows) ++ flat_map signal_row rows

abbrev pub instance_table : ℕ → List InstRow → List ℕ
instance_table version rows = to_be_bytes w16 (length rows) ++ flat_map (inst_row version) rows

abbrev pub event_list : List Event → List ℕ
event_list events = to_be_bytes w32 (length events) ++ flat_map event events

-- what stands before the tables
abbrev pub front : (version : ℕ) (id : List ℕ) (status seed time : ℕ) (user : List ℕ) → List ℕ
front version id status seed time user = head version ++ (text id ++ (status ∷ (to_be_bytes w64 seed ++ (to_be_bytes w64 time ++ text user))))

abbrev pub tables : (version : ℕ) → List SignalRow → List InstRow → List Event → List ℕ
tables version signals instances events = signal_table signals ++ (instance_table version instances ++ event_list events)

unfoldable pub bytes_of : Fields → List ℕ
bytes_of r =
    head r.version ++ (text r.id ++ (r.status ∷ (to_be_bytes w64 r.seed ++ (to_be_bytes w64 r.time ++ (text r.user
    ++ (signal_table r.signals ++ (instance_table r.version r.instances ++ event_list r.events)))))))
