-- Variables (IEEE 1800-2017, 6.8).
use Rattle.std.specs.Prelude.{ℕ, List, [], ◌∷◌, ◌++◌, length, nat_lt, Result, Ok}
use Rattle.cov_ground.specs.Limits.{most_signals}
use Rattle.name_map.specs.Names.{with_name}
use Rattle.cov_tree.specs.declared.declarations.TypeText.{TypeText}
use Rattle.const_eval.specs.declared.meaning.Meaning.TheVariants.{Signal}
use Rattle.elab_base.specs.declared.fault.ElabKind.TheVariants as kind
use Rattle.elab_base.specs.declared.names.What.TheVariants as what
use Rattle.elab_base.specs.Gives.{Refusal, ◌>>=◌, needs}
use Rattle.elab_base.specs.Steps.{unused}
use Rattle.elab_decls.specs.declared.outside.Outside.{Outside}
use Rattle.elab_decls.specs.declared.outside.Shape.{Shape}
use Rattle.elab_decls.specs.Shapes.{shape_of}

-- the design with one signal more
unfoldable pub with_signal : List ℕ → Shape → Outside → Outside
with_signal name shape outside = record outside {
  names = with_name outside.names name (what.Variable shape.enumeration);
  scope = record outside.scope { outer = with_name outside.scope.outer name (Signal (length outside.signals) shape.typ shape.low) };
  signals = outside.signals ++ record { name = name; width = shape.typ.width; signed = shape.typ.signed } ∷ [];
}

-- a variable: its type, and then its name
unfoldable pub variable : TypeText → List ℕ → ℕ → Outside → Result Outside Refusal
variable typ name at outside = do
  shape ← shape_of outside typ at
  _ ← unused outside.names name at
  _ ← needs (nat_lt (length outside.signals) most_signals) kind.DesignLimit at
  Ok (with_signal name shape outside)
