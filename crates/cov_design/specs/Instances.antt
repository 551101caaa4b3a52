-- Instances of groups (IEEE 1800-2017, 19.3): a group's body is walked at each of them.
use Rattle.std.specs.Prelude.{ℕ, List, [], ◌∷◌, ◌++◌, length, nat_eq, nat_lt, slice_get, Option, Some, Result, Ok, Err, set}
use Rattle.std.specs.Option.{option_map_or}
use Rattle.cov_ground.specs.Limits.{most_instances}
use Rattle.name_map.specs.Names.{Pairs, meaning_of}
use Rattle.cov_tree.specs.declared.expr.Expr.{Expr}
use Rattle.cov_tree.specs.declared.declarations.Decl.{Decl}
use Rattle.cov_tree.specs.declared.declarations.Decl.TheVariants as decls
use Rattle.cov_tree.specs.declared.groups.Formal.{Formal}
use Rattle.cov_tree.specs.declared.groups.Member.{Member}
use Rattle.const_eval.specs.Scopes.{Names}
use Rattle.design_data.specs.declared.infos.Signal.{Signal}
use Rattle.design_data.specs.declared.infos.InstInfo.{InstInfo}
use Rattle.elab_base.specs.declared.fault.ElabKind.TheVariants as kind
use Rattle.elab_base.specs.declared.names.What.{What}
use Rattle.elab_base.specs.declared.names.What.TheVariants as what
use Rattle.elab_base.specs.Gives.{Refusal, ◌>>=◌, needs}
use Rattle.elab_base.specs.Steps.{unused}
use Rattle.elab_decls.specs.declared.outside.Outside.{Outside}
use Rattle.elab_decls.specs.Formals.{args_fit, formals_of}
use Rattle.elab_decls.specs.Options.{group_options, remarks_of}
use Rattle.elab_members.specs.declared.counts.Counts.{Counts}
use Rattle.elab_members.specs.Members.{inside_in, members_walked}
use Rattle.cov_design.specs.declared.known.Known.{Known}
use Rattle.cov_design.specs.declared.instances.Body.{Body}
use Rattle.cov_design.specs.Groups.{group_info, named}

-- ---- the text of a group

-- No text reaches the cases of other declarations below, nor a place behind the text: a group's place is that of its
-- declaration.

abbrev pub formals_in : Decl → List Formal
formals_in (decls.Group name formals event args ms at) = formals
formals_in (decls.Enum name base names at) = []
formals_in (decls.Var typ name at) = []
formals_in (decls.Instance of_group name args at) = []

abbrev pub samples_in : Decl → List Formal
samples_in (decls.Group name formals event args ms at) = args
samples_in (decls.Enum name base names at) = []
samples_in (decls.Var typ name at) = []
samples_in (decls.Instance of_group name args at) = []

abbrev pub members_in : Decl → List Member
members_in (decls.Group name formals event args ms at) = ms
members_in (decls.Enum name base names at) = []
members_in (decls.Var typ name at) = []
members_in (decls.Instance of_group name args at) = []

-- the parts of the group at a place of the text
unfoldable pub formals_at : List Decl → ℕ → List Formal
formals_at text place = option_map_or formals_in (slice_get text place) []

unfoldable pub samples_at : List Decl → ℕ → List Formal
samples_at text place = option_map_or samples_in (slice_get text place) []

unfoldable pub members_at : List Decl → ℕ → List Member
members_at text place = option_map_or members_in (slice_get text place) []

-- ---- instances

-- the place of a group in the text and among so many groups
unfoldable pub group_meant : ℕ → Option What → ℕ → Result (ℕ × ℕ) Refusal
-- no text reaches UnknownType here: the groups are counted as they are named
group_meant groups (Some (what.Group place group)) at = do
  _ ← needs (nat_lt group groups) kind.UnknownType at
  Ok (place, group)
group_meant groups other at = Err (kind.UnknownType, at)

-- what is declared outside, behind the formals and sample arguments of an instance
abbrev pub entered : Outside → Names → Outside
entered outside inner = record outside { scope = record outside.scope { inner = inner } }

-- the options of the group and then its items, behind formals and sample arguments of these names
unfoldable pub body_walked : Outside → Pairs What → Counts → List Member → Result Body Refusal
body_walked outside names counts ms = do
  options ← group_options outside.scope ms
  items ← members_walked outside (inside_in names options ms) counts ms
  Ok (record { options = options; items = items })

abbrev pub inst_info : List ℕ → ℕ → List Signal → Body → InstInfo
inst_info name group args body = record {
  name = name;
  group = group;
  weight = body.options.weight;
  goal = body.options.goal;
  at_least = body.options.at_least;
  print = nat_eq body.options.per_instance 1;
  remarks = remarks_of body.options;
  args = args;
  items = body.items.items;
}

-- one instance more, and the type options of its group
unfoldable pub with_instance : List ℕ → List ℕ → ℕ → List Signal → Body → Known → Known
with_instance name of_group group args body known = record {
  outside = named name what.Instance known.outside;
  groups = set known.groups group (group_info of_group body.options);
  instances = known.instances ++ inst_info name group args body ∷ [];
  counts = body.items.counts;
}

-- the formals, the sample arguments, the options and the members of an instance of the group at these places
unfoldable pub instance_of : List Decl → ℕ × ℕ → List ℕ → List ℕ → List Expr → ℕ → Known → Result Known Refusal
instance_of text place of_group name args at known = do
  formals ← formals_of known.outside (formals_at text place.0) (samples_at text place.0) args at
  body ← body_walked (entered known.outside formals.inner) formals.names known.counts (members_at text place.0)
  Ok (with_instance name of_group place.1 formals.args body known)

unfoldable pub instance : List Decl → List ℕ → List ℕ → List Expr → ℕ → Known → Result Known Refusal
instance text of_group name args at known = do
  _ ← unused known.outside.names name at
  place ← group_meant (length known.groups) (meaning_of known.outside.names of_group) at
  _ ← needs (args_fit (formals_at text place.0) args) kind.ArgCount at
  _ ← needs (nat_lt (length known.instances) most_instances) kind.DesignLimit at
  instance_of text place of_group name args at known
