-- What the command `record` makes of a design text and a dump.
use Rattle.std.specs.Prelude.{◌≡◌, ℕ, ◌≤◌, nat_le, nat_lt, List, length, Option, Bool, true, Result, Ok}
use mathlib.Core.Bool.{◌&&◌}
use Rattle.std.specs.List.{list_all}
use Rattle.cov_tree.specs.declared.declarations.DesignText.{DesignText}
use Rattle.cov_base.specs.Loads.{HasFile}
use Rattle.cov_ground.specs.Limits.{longest_design}
use Rattle.cov_compile.specs.Compiling.{Declares}
use Rattle.cov_compile.specs.Elaboration.{Elaborates, parts_of}
use Rattle.design_data.specs.declared.design.Design.{Design}
use Rattle.record_codec.specs.Limits.{longest_id}
use Rattle.record_codec.specs.declared.record.Fields.{Fields}
use Rattle.vcd_reader.specs.DumpFault.{DumpFault}
use Rattle.vcd_reader.specs.Reading.{reading, longest_dump}
use Rattle.vcd_reader.specs.Records.{recorded}
use Rattle.vcd_reader.specs.Refusals.{◌>>=◌, Fails}

-- ---- the id of a test

-- a byte of an id, from `!` to `~`
abbrev pub is_id_byte : ℕ → Bool
is_id_byte byte = nat_le 33 byte && nat_le byte 126

-- such bytes, one at least
abbrev pub is_test_id : List ℕ → Bool
is_test_id id = nat_lt 0 (length id) && nat_le (length id) longest_id && list_all is_id_byte id

abbrev pub IsTestId : List ℕ → Type 0
IsTestId id = is_test_id id ≡ true

-- ---- the design text and the dump

-- the text has these declarations, and they make the design
pub record IsTextOf (tree : DesignText) (d : Design) (text : List ℕ) : Type 0 where
  pub declares : Declares text tree.decls
  pub elaborates : Elaborates tree ≡ Ok (parts_of d)

-- the file of that name is such a text
pub record HasText (files : Option (List (List ℕ × List ℕ))) (name : List ℕ) (tree : DesignText) (d : Design) : Type 0 where
  pub text : List ℕ
  pub file : HasFile files name text
  pub short : length text ≤ longest_design
  pub is_text : IsTextOf tree d text

-- The fields of the record that the bytes of a dump give of a scope under an id, or the first refusal: that of reading
-- the dump, or else that of making its record.
abbrev pub made_of : DesignText → Design → (bytes scope id : List ℕ) → Result Fields DumpFault
made_of tree d bytes scope id = do
  dump ← reading bytes
  recorded tree d dump scope id

-- the file of that name is a dump that gives this
pub record HasMade (files : Option (List (List ℕ × List ℕ))) (name : List ℕ) (tree : DesignText) (d : Design) (scope id : List ℕ) (made : Result Fields DumpFault) : Type 0 where
  pub bytes : List ℕ
  pub file : HasFile files name bytes
  pub short : length bytes ≤ longest_dump
  pub is_made : made_of tree d bytes scope id ≡ made

-- The text declares a design under which the dump is refused so; want of memory alone is free.
abbrev pub IsFaultOf : (text bytes scope id : List ℕ) → DumpFault → Type 0
IsFaultOf text bytes scope id fault = (tree : DesignText) × (d : Design) × IsTextOf tree d text × Fails fault (made_of tree d bytes scope id)
