-- The variables of a dump that the signals of a design stand for.
use Rattle.std.specs.Prelude.{ℕ, List, [], ◌∷◌, ◌++◌, length, ◌==◌, not, Option, Some, None, Result, Ok, Err, if◌then◌else◌}
use mathlib.Core.Bool.{◌&&◌}
use Rattle.std.specs.List.{flat_map}
use Rattle.name_map.specs.Names.{Pairs}
use Rattle.design_data.specs.declared.infos.Signal.{Signal}
use Rattle.vcd_dump.specs.declared.dump.DumpVar.{DumpVar}
use Rattle.vcd_dump.specs.declared.header.Code.{Code}
use Rattle.vcd_dump.specs.declared.fault.DumpFault.{DumpFault}
use Rattle.vcd_dump.specs.declared.fault.DumpFault.TheVariants.{NoSignal, WidthDiffers}
use Rattle.vcd_dump.specs.Header.{is}
use Rattle.vcd_reader.specs.Refusals.{◌>>=◌, each}

-- a variable of the scope that is no bit and no word of what has its name
abbrev pub var_pair : (scope : List ℕ) → DumpVar → Pairs Code
var_pair scope v = if not v.selected && is v.scope scope then (v.name, record { number = v.code; width = v.width }) ∷ [] else []

-- the variables of a scope by name, of which the first of a name counts
unfoldable pub vars_in : (scope : List ℕ) → List DumpVar → Pairs Code
vars_in scope vars = flat_map (var_pair scope) vars

-- the code of signal number n, where the variable of its name has its width
abbrev pub code_for : Option Code → (n width : ℕ) → Result ℕ DumpFault
code_for None n width = Err (NoSignal n)
code_for (Some code) n width = if code.width == width then Ok code.number else Err (WidthDiffers n)

-- the code of one signal more, behind those of the signals before it; `find` gives the code of a name
unfoldable pub add_code : (find : List ℕ → Option Code) → Signal → List ℕ → Result (List ℕ) DumpFault
add_code find signal found = do
  code ← code_for (find signal.name) (length found) signal.width
  Ok (found ++ code ∷ [])

-- the code of each signal in order, or the first signal that has none
unfoldable pub codes_of : (find : List ℕ → Option Code) → List Signal → Result (List ℕ) DumpFault
codes_of find signals = each (add_code find) signals []
