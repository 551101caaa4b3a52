-- Whether the tables of a record are those of a design, and those of two designs the same.
use Rattle.std.specs.Prelude.{ℕ, ◌==◌, List, [], ◌∷◌, slice_get, Bool, true, false, ◌&&◌, if◌then◌else◌, not, bytes_eq}
use Rattle.std.specs.Option.{option_map_or}
use Rattle.design_data.specs.declared.infos.Signal.{Signal}
use Rattle.design_data.specs.declared.infos.InstInfo.{InstInfo}
use Rattle.design_data.specs.declared.infos.GroupInfo.{GroupInfo}
use Rattle.design_data.specs.declared.design.Design.{Design}
use Rattle.record_codec.specs.declared.record.Record.{Record}
use Rattle.record_codec.specs.declared.record.SignalRow.{SignalRow}
use Rattle.record_codec.specs.declared.record.ArgRow.{ArgRow}
use Rattle.record_codec.specs.declared.record.InstRow.{InstRow}

-- as many elements, which agree one by one
abbrev pub agree : {A B : Type 0} → (A → B → Bool) → List A → List B → Bool
agree test [] [] = true
agree test [] (y ∷ ys) = false
agree test (x ∷ xs) [] = false
agree test (x ∷ xs) (y ∷ ys) = test x y && agree test xs ys

abbrev pub group_name : List GroupInfo → ℕ → List ℕ
group_name groups group = option_map_or (λ info. info.name) (slice_get groups group) []

abbrev pub same_sign : Bool → Bool → Bool
same_sign signed other = if signed then other else not other

-- ---- a record and a design

abbrev pub is_signal : SignalRow → Signal → Bool
is_signal row signal = bytes_eq row.name signal.name && (row.width == signal.width && same_sign row.signed signal.signed)

abbrev pub is_arg : ArgRow → Signal → Bool
is_arg row arg = row.width == arg.width && same_sign row.signed arg.signed

-- a record of version 1 has no arguments
abbrev pub is_instance : (version : ℕ) → List GroupInfo → InstRow → InstInfo → Bool
is_instance version groups row inst =
    bytes_eq row.name inst.name && (bytes_eq row.group (group_name groups inst.group) && agree is_arg row.args (if version == 1 then [] else inst.args))

-- the record's tables are the design's, in order
unfoldable pub fits : Design → Record → Bool
fits d r = agree is_signal r.signals d.signals && agree (is_instance r.version d.groups) r.instances d.instances

-- ---- two designs

abbrev pub same_signal : (signal other : Signal) → Bool
same_signal signal other = bytes_eq signal.name other.name && (signal.width == other.width && same_sign signal.signed other.signed)

-- instances of one name, of groups of one name, with the same arguments
abbrev pub same_instance : (groups others : List GroupInfo) → (inst other : InstInfo) → Bool
same_instance groups others inst other =
    bytes_eq inst.name other.name && (bytes_eq (group_name groups inst.group) (group_name others other.group) && agree same_signal inst.args other.args)

-- the same signals, instances and arguments
unfoldable pub same_tables : Design → Design → Bool
same_tables d other = agree same_signal d.signals other.signals && agree (same_instance d.groups other.groups) d.instances other.instances
