-- The formals of an instance with its arguments, and the arguments of its sample function (IEEE 1800-2017, 13.5, 19.3 and
-- 19.8.1).
use Rattle.std.specs.Prelude.{ℕ, ◌+◌, List, [], ◌∷◌, ◌++◌, length, drop, nat_eq, nat_le, nat_lt, slice_get, ◌&&◌, Bool, true, false, Option, Some, None, is_some, Result, Ok, Err}
use Rattle.std.specs.List.{list_all}
use Rattle.cov_ground.specs.Limits.{most_signals, most_arguments}
use Rattle.name_map.specs.Names.{meaning_of, with_name}
use Rattle.cov_tree.specs.declared.expr.Expr.{Expr}
use Rattle.cov_tree.specs.declared.expr.Expr.TheViews.{out-Expr}
use Rattle.cov_tree.specs.declared.expr.Expr.TheOpen as expr
use Rattle.cov_tree.specs.declared.expr.Expr.TheOpen.{Expr-F}
use Rattle.cov_tree.specs.declared.groups.Formal.{Formal}
use Rattle.const_eval.specs.Typs.{Typ}
use Rattle.const_eval.specs.declared.meaning.Meaning.{Meaning}
use Rattle.const_eval.specs.declared.meaning.Meaning.TheVariants.{Signal, Const}
use Rattle.const_eval.specs.Scopes.{names_of}
use Rattle.const_eval.specs.Binding.{place_of}
use Rattle.const_eval.specs.Values.{cut_to}
use Rattle.elab_base.specs.declared.fault.ElabKind.TheVariants as kind
use Rattle.elab_base.specs.declared.names.What.{What}
use Rattle.elab_base.specs.declared.names.What.TheVariants as what
use Rattle.elab_base.specs.Gives.{Refusal, ◌>>=◌, needs, each, each_at}
use Rattle.elab_base.specs.Steps.{unused, bound_in, number_in}
use Rattle.elab_decls.specs.declared.outside.Outside.{Outside}
use Rattle.elab_decls.specs.declared.outside.Shape.{Shape}
use Rattle.elab_decls.specs.declared.formals.Formals.{Formals}
use Rattle.elab_decls.specs.Shapes.{shape_of}

-- ---- `ref`

-- the enumeration that is the type of a variable, a formal or a sample argument
abbrev pub enumeration_of : Option What → Option ℕ
enumeration_of (Some (what.Variable enumeration)) = enumeration
enumeration_of (Some (what.Formal by_ref enumeration)) = enumeration
enumeration_of other = None

abbrev pub is_same_sign : Bool → Bool → Bool
is_same_sign true true = true
is_same_sign false false = true
is_same_sign other signed = false

abbrev pub is_same_enumeration : Option ℕ → Option ℕ → Bool
is_same_enumeration None None = true
is_same_enumeration (Some a) (Some b) = nat_eq a b
is_same_enumeration other enumeration = false

-- a variable of the width, the sign and the enumeration of a formal
abbrev pub is_alike : Shape → Typ → Option ℕ → Bool
is_alike shape typ enumeration = nat_eq typ.width shape.typ.width && (is_same_sign typ.signed shape.typ.signed && is_same_enumeration enumeration shape.enumeration)

-- the variable that a name stands for, seen with the span of the formal
abbrev pub variable_meant : Shape → Option Meaning → Option What → ℕ → Result Meaning Refusal
-- no text reaches this: the argument was bound before, so its name is in scope
variable_meant shape None named at = Err (kind.RefNotVariable, at)
variable_meant shape (Some (Const value typ low)) named at = Err (kind.RefNotVariable, at)
variable_meant shape (Some (Signal index typ low)) named at = do
  _ ← needs (is_alike shape typ (enumeration_of named)) kind.RefNotVariable at
  Ok (Signal index shape.typ shape.low)

-- an expression that has to be the name of a variable
abbrev pub ref_layer : {A : Type 0} → Outside → Shape → Expr-F A → (place : ℕ) → Result Meaning Refusal
ref_layer outside shape (expr.Num lit at) place = Err (kind.RefNotVariable, place)
ref_layer outside shape (expr.Name name at) place = variable_meant shape (meaning_of (names_of outside.scope) name) (meaning_of outside.names name) place
ref_layer outside shape (expr.Bit name index at) place = Err (kind.RefNotVariable, place)
ref_layer outside shape (expr.Part name high low at) place = Err (kind.RefNotVariable, place)
ref_layer outside shape (expr.Concat parts at) place = Err (kind.RefNotVariable, place)
ref_layer outside shape (expr.Unary op arg at) place = Err (kind.RefNotVariable, place)
ref_layer outside shape (expr.Binary op left right at) place = Err (kind.RefNotVariable, place)
ref_layer outside shape (expr.Cond test yes' no' at) place = Err (kind.RefNotVariable, place)

abbrev pub ref_meant : Outside → Shape → Expr → Result Meaning Refusal
ref_meant outside shape e = ref_layer outside shape (out-Expr e) (place_of e)

-- ---- formals

-- a variable for `ref`; a number for `input`, computed by itself and then cut to the formal's type
unfoldable pub formal_meant : Outside → Bool → Shape → Expr → Result Meaning Refusal
formal_meant outside true shape e = do
  _ ← bound_in outside.scope e
  ref_meant outside shape e
formal_meant outside false shape e = do
  n ← number_in outside.scope e
  Ok (Const (cut_to shape.typ n) shape.typ (Some shape.low))

-- the argument of a formal, or else its default
abbrev pub argument_or : Option Expr → Option Expr → Option Expr
argument_or (Some argument) default = Some argument
argument_or None default = default

abbrev pub given_meant : Outside → Bool → Shape → Option Expr → ℕ → Result Meaning Refusal
-- no text reaches this: that each formal has an argument or a default was tried before (args_fit, below)
given_meant outside by_ref shape None at = Err (kind.ArgCount, at)
given_meant outside by_ref shape (Some e) at = formal_meant outside by_ref shape e

unfoldable pub with_formal : Bool → List ℕ → Shape → Meaning → Formals → Formals
with_formal by_ref name shape meaning s = record s {
  names = with_name s.names name (what.Formal by_ref shape.enumeration);
  inner = with_name s.inner name meaning;
}

-- the formal at place k of an instance at `at`: its name, its type and its argument, which see what is declared outside
unfoldable pub formal : Outside → List Expr → ℕ → ℕ → Formal → Formals → Result Formals Refusal
formal outside args at k f s = do
  _ ← unused s.names f.name f.at
  shape ← shape_of outside f.typ f.at
  meaning ← given_meant outside f.by_ref shape (argument_or (slice_get args k) f.default) at
  Ok (with_formal f.by_ref f.name shape meaning s)

-- there are no more arguments than formals, and each formal without a default has one
unfoldable pub args_fit : List Formal → List Expr → Bool
args_fit formals args = nat_le (length args) (length formals) && list_all (λ f. is_some f.default) (drop (length args) formals)

-- ---- arguments of the sample function

-- its value is that of the signal behind all signals and behind the arguments before it
unfoldable pub with_sample_argument : List ℕ → Shape → Formals → Formals
with_sample_argument name shape s = record {
  names = with_name s.names name (what.Formal false shape.enumeration);
  inner = with_name s.inner name (Signal (most_signals + length s.args) shape.typ shape.low);
  args = s.args ++ record { name = name; width = shape.typ.width; signed = shape.typ.signed } ∷ [];
}

-- an argument: its name, its type, and that there are no more than 16
unfoldable pub sample_argument : Outside → Formal → Formals → Result Formals Refusal
sample_argument outside f s = do
  _ ← unused s.names f.name f.at
  shape ← shape_of outside f.typ f.at
  _ ← needs (nat_lt (length s.args) most_arguments) kind.TooManyArgs f.at
  Ok (with_sample_argument f.name shape s)

-- ---- all of an instance

abbrev pub no_formals : Formals
no_formals = record { names = []; inner = []; args = [] }

unfoldable pub formals_walked : Outside → List Expr → ℕ → List Formal → Result Formals Refusal
formals_walked outside args at formals = each_at (formal outside args at) 0 formals no_formals

unfoldable pub samples_walked : Outside → List Formal → Formals → Result Formals Refusal
samples_walked outside samples s = each (sample_argument outside) samples s

-- the formals of an instance at `at` with their arguments, and then the arguments of the sample function
unfoldable pub formals_of : Outside → List Formal → List Formal → List Expr → ℕ → Result Formals Refusal
formals_of outside formals samples args at = do
  s ← formals_walked outside args at formals
  samples_walked outside samples s
