-- The names that the event of an instance sees: its formals, and then all variables (IEEE 1800-2017, 19.3).
use Rattle.std.specs.Prelude.{ℕ, ◌+◌, List, [], ◌∷◌, length, nat_eq, nat_lt, Option, Some, None, Result, Ok, Bool, true, false}
use Rattle.std.specs.List.{flat_map}
use Rattle.cov_ground.specs.Limits.{most_instances}
use Rattle.name_map.specs.Names.{meaning_of, with_names}
use Rattle.cov_tree.specs.declared.expr.Expr.{Expr}
use Rattle.cov_tree.specs.declared.declarations.Decl.{Decl}
use Rattle.cov_tree.specs.declared.declarations.Decl.TheVariants as decls
use Rattle.const_eval.specs.declared.meaning.Meaning.{Meaning}
use Rattle.const_eval.specs.Scopes.{Names, Levels, names_of}
use Rattle.elab_base.specs.declared.fault.ElabKind.TheVariants as kind
use Rattle.elab_base.specs.declared.names.What.TheVariants as what
use Rattle.elab_base.specs.Gives.{Refusal, ◌>>=◌, needs, each_at}
use Rattle.elab_decls.specs.Enumerations.{enumeration}
use Rattle.elab_decls.specs.Variables.{variable}
use Rattle.elab_decls.specs.Formals.{formals_walked}
use Rattle.cov_design.specs.declared.known.Known.{Known}
use Rattle.cov_design.specs.declared.events.Seen.{Seen}
use Rattle.cov_design.specs.Groups.{group, named}
use Rattle.cov_design.specs.Instances.{formals_at, group_meant}
use Rattle.cov_design.specs.Walk.{outside_step, nothing}

-- ---- the formals of an instance

-- what the formals stand for of an instance that stands here
unfoldable pub formals_here : List Decl → List ℕ → List Expr → ℕ → Known → Result Names Refusal
formals_here text of_group args at known = do
  place ← group_meant (length known.groups) (meaning_of known.outside.names of_group) at
  formals ← formals_walked known.outside args at (formals_at text place.0)
  Ok formals.inner

-- those of the instance that is looked for
abbrev pub formals_if : Bool → List Decl → List ℕ → List Expr → ℕ → Seen → Result Names Refusal
formals_if true text of_group args at s = formals_here text of_group args at s.known
formals_if false text of_group args at s = Ok s.formals

-- an instance; no group's body is walked
unfoldable pub instance_seen : List Decl → (n : ℕ) → List ℕ → List ℕ → List Expr → ℕ → Seen → Result Seen Refusal
instance_seen text n of_group name args at s = do
  _ ← needs (nat_lt s.instances most_instances) kind.DesignLimit at
  formals ← formals_if (nat_eq s.instances n) text of_group args at s
  Ok (record {
    known = record s.known { outside = named name what.Instance s.known.outside };
    instances = s.instances + 1;
    formals = formals;
  })

-- a declaration that is no instance
unfoldable pub known_seen : (Known → Result Known Refusal) → Seen → Result Seen Refusal
known_seen step s = do
  known ← step s.known
  Ok (record s { known = known })

-- the declarations, of which those before an instance are known to its formals; n is the number of the instance that is
-- looked for
abbrev pub seen : List Decl → (n : ℕ) → ℕ → Decl → Seen → Result Seen Refusal
seen text n place (decls.Enum name base names at) s = known_seen (outside_step (enumeration name base names at)) s
seen text n place (decls.Var typ name at) s = known_seen (outside_step (variable typ name at)) s
seen text n place (decls.Group name formals event args ms at) s = known_seen (group place name at) s
seen text n place (decls.Instance of_group name args at) s = instance_seen text n of_group name args at s

abbrev pub nothing_seen : Seen
nothing_seen = record { known = nothing; instances = 0; formals = [] }

unfoldable pub all_seen : List Decl → (n : ℕ) → Result Seen Refusal
all_seen text n = each_at (seen text n) 0 text nothing_seen

-- ---- variables

abbrev pub named_pair : List ℕ → Option Meaning → Names
named_pair name None = []
named_pair name (Some meaning) = (name, meaning) ∷ []

-- a variable with what it stands for
abbrev pub variable_pair : Levels → Decl → Names
variable_pair levels (decls.Var typ name at) = named_pair name (meaning_of (names_of levels) name)
variable_pair levels (decls.Enum name base names at) = []
variable_pair levels (decls.Group name formals event args ms at) = []
variable_pair levels (decls.Instance of_group name args at) = []

-- all variables of a text
unfoldable pub variables_in : Levels → List Decl → Names
variables_in levels text = flat_map (variable_pair levels) text

-- ---- both

abbrev pub levels_of : List Decl → Seen → Levels
levels_of text s = record { item = None; inner = s.formals; outer = with_names [] (variables_in s.known.outside.scope text) }

-- the formals of the instance of a number, and then all variables
unfoldable pub event_levels : List Decl → (n : ℕ) → Result Levels Refusal
event_levels text n = do
  s ← all_seen text n
  Ok (levels_of text s)
