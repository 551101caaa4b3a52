-- Groups (IEEE 1800-2017, 19.3).
use Rattle.std.specs.Prelude.{ℕ, List, [], ◌∷◌, ◌++◌, length, nat_lt, nat_eq, Result, Ok}
use Rattle.cov_ground.specs.Limits.{longest_design}
use Rattle.name_map.specs.Names.{with_name}
use Rattle.cov_options.specs.declared.options.Options.{Options}
use Rattle.cov_options.specs.Table.{defaults}
use Rattle.design_data.specs.declared.infos.GroupInfo.{GroupInfo}
use Rattle.elab_base.specs.declared.fault.ElabKind.TheVariants as kind
use Rattle.elab_base.specs.declared.names.What.{What}
use Rattle.elab_base.specs.declared.names.What.TheVariants as what
use Rattle.elab_base.specs.Gives.{Refusal, ◌>>=◌, needs}
use Rattle.elab_base.specs.Steps.{unused}
use Rattle.elab_decls.specs.declared.outside.Outside.{Outside}
use Rattle.cov_design.specs.declared.known.Known.{Known}

-- a group with its type options
abbrev pub group_info : List ℕ → Options → GroupInfo
group_info name options = record { name = name; weight = options.type_weight; goal = options.type_goal; merge = nat_eq options.type_merge_instances 1 }

-- one name more
abbrev pub named : List ℕ → What → Outside → Outside
named name meaning outside = record outside { names = with_name outside.names name meaning }

-- how many groups there are; a text has no more than its bytes
unfoldable pub groups_fit : Known → ℕ → Result ℕ Refusal
groups_fit known at = do
  _ ← needs (nat_lt (length known.groups) longest_design) kind.DesignLimit at
  Ok (length known.groups)

-- the group that is the declaration at a place of the text; its type options are known at its instances
unfoldable pub group : ℕ → List ℕ → ℕ → Known → Result Known Refusal
group place name at known = do
  _ ← unused known.outside.names name at
  count ← groups_fit known at
  Ok (record known { outside = named name (what.Group place count) known.outside; groups = known.groups ++ group_info name defaults ∷ [] })
