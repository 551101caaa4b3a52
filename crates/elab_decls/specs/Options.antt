-- Options where they stand (IEEE 1800-2017, 19.7 and 19.7.1).
use Rattle.std.specs.Prelude.{ℕ, List, [], nat_eq, Bool, true, false, Result, Ok, Err}
use Rattle.cov_tree.specs.declared.bins.OptDecl.{OptDecl}
use Rattle.cov_tree.specs.declared.bins.OptText.{OptText}
use Rattle.cov_tree.specs.declared.bins.OptText.TheVariants as texts
use Rattle.cov_tree.specs.declared.groups.Member.{Member}
use Rattle.cov_tree.specs.declared.groups.Member.TheVariants as members
use Rattle.const_eval.specs.Scopes.{Levels}
use Rattle.cov_options.specs.declared.options.Options.{Options}
use Rattle.cov_options.specs.declared.values.Level.{Level}
use Rattle.cov_options.specs.declared.values.Level.TheVariants.{Group}
use Rattle.cov_options.specs.declared.values.OptValue.{OptValue}
use Rattle.cov_options.specs.declared.values.OptValue.TheVariants as values
use Rattle.cov_options.specs.declared.values.OptFault.{OptFault}
use Rattle.cov_options.specs.declared.values.OptFault.TheVariants as faults
use Rattle.cov_options.specs.Table.{defaults, answer, after}
use Rattle.design_data.specs.declared.infos.Remarks.{Remarks}
use Rattle.elab_base.specs.declared.fault.ElabKind.{ElabKind}
use Rattle.elab_base.specs.declared.fault.ElabKind.TheVariants as kind
use Rattle.elab_base.specs.Gives.{Refusal, ◌>>=◌, each}
use Rattle.elab_base.specs.Steps.{number_in}

-- a type option sees no formals and no sample arguments
abbrev pub seen_by : (on_type : Bool) → Levels → Levels
seen_by true levels = record levels { inner = [] }
seen_by false levels = levels

-- what an option is set to
unfoldable pub value_of : Levels → OptText → Result OptValue Refusal
value_of levels (texts.Number e) = do
  n ← number_in levels e
  Ok (values.Number n)
value_of levels (texts.Text text) = Ok (values.Text text)

abbrev pub kind_of : OptFault → ElabKind
kind_of faults.UnknownOption = kind.UnknownOption
kind_of faults.WrongLevel = kind.WrongLevel
kind_of faults.OutOfRange = kind.OutOfRange
kind_of faults.SetTwice = kind.SetTwice

-- the options after one was set, by what was answered
abbrev pub set_as : Result (Unit {0}) OptFault → Options → ℕ → Result Options Refusal
set_as (Ok done) options at = Ok options
set_as (Err fault) options at = Err (kind_of fault, at)

-- the options after one was set to a value, where it may be
abbrev pub value_set : Level → OptDecl → OptValue → Options → Result Options Refusal
value_set level o value options = set_as (answer options o.on_type level o.name value) (after options o.on_type level o.name value) o.at

-- an option of a group, a point or a cross: its value, and then whether it may be set to that
unfoldable pub option_set : Level → Levels → OptDecl → Options → Result Options Refusal
option_set level levels o options = do
  value ← value_of (seen_by o.on_type levels) o.value
  value_set level o value options

-- the options of a point or a cross, from the left
unfoldable pub options_set : Level → Levels → List OptDecl → Options → Result Options Refusal
options_set level levels os options = each (option_set level levels) os options

-- the options among the members of a group; the others are walked behind all of these
abbrev pub member_set : Levels → Member → Options → Result Options Refusal
member_set levels (members.Opt o) options = option_set Group levels o options
member_set levels (members.Point p) options = Ok options
member_set levels (members.Cross c) options = Ok options

unfoldable pub group_options : Levels → List Member → Result Options Refusal
group_options levels ms = each (member_set levels) ms defaults

-- what the options of a group are by default in its points and in its crosses: those that the group's may set for them
abbrev pub point_defaults : Options → Options
point_defaults group = record defaults { at_least = group.at_least; auto_bin_max = group.auto_bin_max; detect_overlap = group.detect_overlap }

abbrev pub cross_defaults : Options → Options
cross_defaults group = record defaults { at_least = group.at_least; cross_num_print_missing = group.cross_num_print_missing }

-- what the options of an instance, a point or a cross say that no count depends on
abbrev pub remarks_of : Options → Remarks
remarks_of options = record {
  comment = options.comment;
  detect_overlap = nat_eq options.detect_overlap 1;
  auto_bin_max = options.auto_bin_max;
  cross_num_print_missing = options.cross_num_print_missing;
}
