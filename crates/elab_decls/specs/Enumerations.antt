-- Enumerations (IEEE 1800-2017, 6.19).
use Rattle.std.specs.Prelude.{◌≡◌, ℕ, ℤ, pos, ◌+ℤ◌, List, [], ◌∷◌, ◌++◌, length, nat_lt, ◌&&◌, not, true, Option, Some, None, Result, Ok, Err}
use Rattle.std.specs.List.{list_any}
use Rattle.std.specs.Ordering.{int_eq}
use Rattle.cov_ground.specs.Limits.{longest_design}
use Rattle.name_map.specs.Names.{with_name}
use Rattle.cov_tree.specs.declared.declarations.TypeText.{TypeText}
use Rattle.cov_tree.specs.declared.expr.Expr.{Expr}
use Rattle.const_eval.specs.Typs.{Typ}
use Rattle.const_eval.specs.declared.meaning.Meaning.TheVariants.{Const}
use Rattle.const_eval.specs.Scopes.{Levels}
use Rattle.elab_base.specs.declared.fault.ElabKind.TheVariants as kind
use Rattle.elab_base.specs.declared.names.What.TheVariants as what
use Rattle.elab_base.specs.declared.fault.ElabFault.{ElabFault}
use Rattle.elab_base.specs.Gives.{Refusal, ◌>>=◌, Fails, needs, each}
use Rattle.elab_base.specs.Steps.{number_in, unused}
use Rattle.elab_decls.specs.declared.outside.Outside.{Outside}
use Rattle.elab_decls.specs.declared.outside.Shape.{Shape}
use Rattle.elab_decls.specs.declared.constants.Constants.{Constants}
use Rattle.elab_decls.specs.Shapes.{plain_shape, is_number, shape_of}

-- what is written, or else the value of the constant before plus 1
unfoldable pub value_in : Levels → (next : ℤ) → Option Expr → Result ℤ Refusal
value_in levels next None = Ok next
value_in levels next (Some e) = number_in levels e

-- a number of the base that no earlier constant is
unfoldable pub valued : Typ → (values : List ℤ) → ℤ → ℕ → Result ℤ Refusal
valued typ values v at = do
  _ ← needs (is_number typ v && not (list_any (int_eq v) values)) kind.BadEnum at
  Ok v

-- the constants on the way, with what is declared outside groups: each is known to those behind it
abbrev pub Naming : Type 0
Naming = Outside × Constants

unfoldable pub known_constant : List ℕ → ℤ → Typ → Outside → Outside
known_constant name v typ outside = record outside {
  names = with_name outside.names name what.Constant;
  scope = record outside.scope { outer = with_name outside.scope.outer name (Const v typ None) };
}

abbrev pub with_constant : List ℕ → ℤ → Constants → Constants
with_constant name v all = record { constants = all.constants ++ (name, v) ∷ []; values = all.values ++ v ∷ []; next = v +ℤ pos 1 }

-- a constant of an enumeration that stands at `at`
unfoldable pub constant : Typ → ℕ → List ℕ × Option Expr → Naming → Result Naming Refusal
constant typ at named s = do
  _ ← unused s.0.names named.0 at
  written ← value_in s.0.scope s.1.next named.1
  v ← valued typ s.1.values written at
  Ok (known_constant named.0 v typ s.0, with_constant named.0 v s.1)

abbrev pub no_constants : Constants
no_constants = record { constants = []; values = []; next = pos 0 }

unfoldable pub constants_walked : Typ → ℕ → List (List ℕ × Option Expr) → Outside → Result Naming Refusal
constants_walked typ at names outside = each (constant typ at) names (outside, no_constants)

-- what a function owes that returns the constants and changes what it is lent
abbrev pub MakesWith : Result Constants ElabFault → Outside → Result Naming Refusal → Type 0
MakesWith (Ok all) outside given = given ≡ Ok (outside, all)
MakesWith (Err e) outside given = Fails e given

-- an enumeration without a base is an `int`
unfoldable pub base_shape : Outside → Option TypeText → ℕ → Result Shape Refusal
base_shape outside None at = Ok (plain_shape 32 true)
base_shape outside (Some typ) at = shape_of outside typ at

-- the name of the next enumeration; a text has no more of them than its bytes
unfoldable pub type_named : List ℕ → ℕ → Outside → Result Outside Refusal
type_named name at outside = do
  _ ← needs (nat_lt (length outside.enumerations) longest_design) kind.DesignLimit at
  Ok (record outside { names = with_name outside.names name (what.Type (length outside.enumerations)) })

abbrev pub with_enumeration : Shape → Naming → Outside
with_enumeration shape s = record s.0 { enumerations = s.0.enumerations ++ record { typ = shape.typ; low = shape.low; constants = s.1.constants } ∷ [] }

-- an enumeration: its name, its base, and its constants from the left
unfoldable pub enumeration : List ℕ → Option TypeText → List (List ℕ × Option Expr) → ℕ → Outside → Result Outside Refusal
enumeration name base names at outside = do
  _ ← unused outside.names name at
  shape ← base_shape outside base at
  named ← type_named name at outside
  all ← constants_walked shape.typ at names named
  Ok (with_enumeration shape all)
