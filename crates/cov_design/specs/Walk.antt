-- The walk through the declarations of a design, in text order.
use Rattle.std.specs.Prelude.{ℕ, List, [], None, Result, Ok}
use Rattle.cov_tree.specs.declared.declarations.Decl.{Decl}
use Rattle.cov_tree.specs.declared.declarations.Decl.TheVariants as decls
use Rattle.elab_base.specs.Gives.{Refusal, ◌>>=◌, each_at}
use Rattle.elab_decls.specs.declared.outside.Outside.{Outside}
use Rattle.elab_decls.specs.Enumerations.{enumeration}
use Rattle.elab_decls.specs.Variables.{variable}
use Rattle.cov_design.specs.declared.known.Known.{Known}
use Rattle.cov_design.specs.Groups.{group}
use Rattle.cov_design.specs.Instances.{instance}

-- a declaration that concerns what is outside groups alone
abbrev pub outside_step : (Outside → Result Outside Refusal) → Known → Result Known Refusal
outside_step step known = do
  outside ← step known.outside
  Ok (record known { outside = outside })

abbrev pub declared : List Decl → ℕ → Decl → Known → Result Known Refusal
declared text place (decls.Enum name base names at) known = outside_step (enumeration name base names at) known
declared text place (decls.Var typ name at) known = outside_step (variable typ name at) known
declared text place (decls.Group name formals event args ms at) known = group place name at known
declared text place (decls.Instance of_group name args at) known = instance text of_group name args at known

abbrev pub nothing : Known
nothing = record {
  outside = record {
    names = [];
    scope = record { item = None; inner = []; outer = [] };
    enumerations = [];
    signals = [];
  };
  groups = [];
  instances = [];
  counts = record { items = 0; bins = 0; ranges = 0 };
}

-- what a text declares, its bins not numbered yet
unfoldable pub walked : List Decl → Result Known Refusal
walked text = each_at (declared text) 0 text nothing
