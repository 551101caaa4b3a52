-- Steps that several constructs have in common: a new name, and expressions where they stand.
use Rattle.std.specs.Prelude.{ℕ, ℤ, List, not, Option, Some, None, is_some, Result, Ok}
use Rattle.cov_tree.specs.declared.expr.Expr.{Expr}
use Rattle.const_eval.specs.Terms.{Term}
use Rattle.const_eval.specs.Scopes.{Levels, names_of}
use Rattle.const_eval.specs.Binding.{bound_of, constant_of, place_of}
use Rattle.elab_base.specs.declared.fault.ElabKind.TheVariants as kind
use Rattle.name_map.specs.Names.{Pairs, meaning_of}
use Rattle.elab_base.specs.declared.names.What.{What}
use Rattle.elab_base.specs.Gives.{Refusal, ◌>>=◌, needs, lifted}

-- a name that its scope doesn't have yet
unfoldable pub unused : Pairs What → List ℕ → ℕ → Result (Unit {0}) Refusal
unused names name at = needs (not (is_some (meaning_of names name))) kind.DuplicateName at

-- an expression with its names bound
unfoldable pub bound_in : Levels → Expr → Result Term Refusal
bound_in levels e = lifted (bound_of (names_of levels) e)

-- the number of an expression that stands where a constant is needed
unfoldable pub number_in : Levels → Expr → Result ℤ Refusal
number_in levels e = do
  term ← bound_in levels e
  lifted (constant_of term (place_of e))

-- a guard, where one is written
unfoldable pub guard_in : Levels → Option Expr → Result (Option Term) Refusal
guard_in levels None = Ok None
guard_in levels (Some e) = do
  term ← bound_in levels e
  Ok (Some term)
