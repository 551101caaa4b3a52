-- The tables that a record of a design has.
use Rattle.std.specs.Prelude.{ℕ, ◌==◌, List, [], map, slice_get, Option, Some, None, if◌then◌else◌}
use Rattle.record_codec.specs.declared.record.SignalRow.{SignalRow}
use Rattle.record_codec.specs.declared.record.InstRow.{InstRow}
use Rattle.record_codec.specs.declared.record.ArgRow.{ArgRow}
use Rattle.design_data.specs.declared.infos.Signal.{Signal}
use Rattle.design_data.specs.declared.infos.GroupInfo.{GroupInfo}
use Rattle.design_data.specs.declared.infos.InstInfo.{InstInfo}
use Rattle.design_data.specs.declared.design.Design.{Design}

-- a signal's row
abbrev pub signal_row : Signal → SignalRow
signal_row signal = record { name = signal.name; width = signal.width; signed = signal.signed }

-- an argument's row: its width and its sign
abbrev pub arg_row : Signal → ArgRow
arg_row arg = record { width = arg.width; signed = arg.signed }

-- the rows of the arguments of a sample function; a record of version 1 has none
abbrev pub arg_rows : (version : ℕ) → List Signal → List ArgRow
arg_rows version args = if version == 1 then [] else map arg_row args

abbrev pub name_of : Option GroupInfo → List ℕ
name_of None = []
name_of (Some group) = group.name

-- an instance's row: its name and its group's, and the rows of its arguments
abbrev pub instance_row : (version : ℕ) → List GroupInfo → InstInfo → InstRow
instance_row version groups inst = record { name = inst.name; group = name_of (slice_get groups inst.group); args = arg_rows version inst.args }

-- the tables that a record of this version of the design's has
abbrev pub signals_of : Design → List SignalRow
signals_of d = map signal_row d.signals

abbrev pub instances_of : Design → (version : ℕ) → List InstRow
instances_of d version = map (instance_row version d.groups) d.instances
