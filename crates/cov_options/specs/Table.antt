-- The options (IEEE 1800-2017, 19.7 and 19.7.1), and what comes of setting one.
use Rattle.std.specs.Prelude.{◌≡◌, ℕ, ◌-◌, ◌^◌, pos, List, [], ◌∷◌, codes, Bool, true, false, Option, Some, None, Result, Err, is_ok, if◌then◌else◌}
use Rattle.std.specs.List.{find}
use Rattle.std.specs.Str.{bytes_eq}
use Rattle.cov_ground.specs.Limits.{most_bins}
use Rattle.cov_options.specs.declared.options.Options.{Options}
use Rattle.cov_options.specs.declared.values.Level.{Level}
use Rattle.cov_options.specs.declared.values.OptValue.{OptValue}
use Rattle.cov_options.specs.declared.values.OptValue.TheVariants.{Number, Text}
use Rattle.cov_options.specs.declared.values.OptFault.{OptFault}
use Rattle.cov_options.specs.declared.values.OptFault.TheVariants.{UnknownOption}
use Rattle.cov_options.specs.Values.{Values, numbers, texts, accepts, allows, refusal, number_of, text_of}

-- an option
pub record Row : Type 0 where
  pub name : List ℕ
  -- what it is where it isn't set, and what it may be set to
  pub default : OptValue
  pub values : Values
  -- whether it may be set in a coverpoint, and in a cross; each may be set in a covergroup
  pub point : Bool
  pub cross : Bool
  -- its value and its mark among the options, and the options with a new value and the mark
  pub value : Options → OptValue
  pub is_set : Options → Bool
  pub with : OptValue → Options → Options

-- an option that is a number: its name, its default, the least and the most
abbrev pub number : List ℕ → ℕ → ℕ → ℕ → Bool → Bool → (Options → ℕ) → (Options → Bool) → (ℕ → Options → Options) → Row
number name default least most point cross value is_set with = record { name = name; default = Number (pos default); values = numbers least most; point = point; cross = cross; value = λ o. Number (pos (value o)); is_set = is_set; with = λ v. with (number_of v) }

-- an option that is a string: its name
abbrev pub text : List ℕ → Bool → Bool → (Options → List ℕ) → (Options → Bool) → (List ℕ → Options → Options) → Row
text name point cross value is_set with = record { name = name; default = Text []; values = texts; point = point; cross = cross; value = λ o. Text (value o); is_set = is_set; with = λ v. with (text_of v) }

-- the most where the standard has no limit
abbrev pub most : ℕ
most = 2 ^ 31 - 1

-- the options of the word `option`
abbrev pub options : List Row
options =
    number (codes "weight") 1 0 most true true
    (λ o. o.weight) (λ o. o.weight_set) (λ n o. record o { weight = n; weight_set = true }) ∷
    number (codes "goal") 100 0 100 true true
    (λ o. o.goal) (λ o. o.goal_set) (λ n o. record o { goal = n; goal_set = true }) ∷
    text (codes "name") false false
    (λ o. o.name) (λ o. o.name_set) (λ t o. record o { name = t; name_set = true }) ∷
    text (codes "comment") true true
    (λ o. o.comment) (λ o. o.comment_set) (λ t o. record o { comment = t; comment_set = true }) ∷
    number (codes "at_least") 1 1 most true true
    (λ o. o.at_least) (λ o. o.at_least_set) (λ n o. record o { at_least = n; at_least_set = true }) ∷
    number (codes "detect_overlap") 0 0 1 true false
    (λ o. o.detect_overlap) (λ o. o.detect_overlap_set) (λ n o. record o { detect_overlap = n; detect_overlap_set = true }) ∷
    number (codes "auto_bin_max") 64 1 most_bins true false
    (λ o. o.auto_bin_max) (λ o. o.auto_bin_max_set) (λ n o. record o { auto_bin_max = n; auto_bin_max_set = true }) ∷
    number (codes "cross_num_print_missing") 0 0 most false true
    (λ o. o.cross_num_print_missing) (λ o. o.cross_num_print_missing_set) (λ n o. record o { cross_num_print_missing = n; cross_num_print_missing_set = true }) ∷
    number (codes "per_instance") 0 0 1 false false
    (λ o. o.per_instance) (λ o. o.per_instance_set) (λ n o. record o { per_instance = n; per_instance_set = true }) ∷
    number (codes "get_inst_coverage") 0 0 1 false false
    (λ o. o.get_inst_coverage) (λ o. o.get_inst_coverage_set) (λ n o. record o { get_inst_coverage = n; get_inst_coverage_set = true }) ∷
    []

-- the options of the word `type_option`
abbrev pub type_options : List Row
type_options =
    number (codes "weight") 1 0 most true true
    (λ o. o.type_weight) (λ o. o.type_weight_set) (λ n o. record o { type_weight = n; type_weight_set = true }) ∷
    number (codes "goal") 100 0 100 true true
    (λ o. o.type_goal) (λ o. o.type_goal_set) (λ n o. record o { type_goal = n; type_goal_set = true }) ∷
    text (codes "comment") true true
    (λ o. o.type_comment) (λ o. o.type_comment_set) (λ t o. record o { type_comment = t; type_comment_set = true }) ∷
    number (codes "strobe") 0 0 1 false false
    (λ o. o.type_strobe) (λ o. o.type_strobe_set) (λ n o. record o { type_strobe = n; type_strobe_set = true }) ∷
    number (codes "merge_instances") 0 0 1 false false
    (λ o. o.type_merge_instances) (λ o. o.type_merge_instances_set) (λ n o. record o { type_merge_instances = n; type_merge_instances_set = true }) ∷
    number (codes "distribute_first") 0 0 1 false false
    (λ o. o.type_distribute_first) (λ o. o.type_distribute_first_set) (λ n o. record o { type_distribute_first = n; type_distribute_first_set = true }) ∷
    []

-- the row of a word and a name
abbrev pub row_of : Bool → List ℕ → Option Row
row_of on_type name = find (λ row. bytes_eq name row.name) (if on_type then type_options else options)

-- each option has its default, and no mark
abbrev pub HasDefaults : List Row → Options → Type 0
HasDefaults [] o = Unit {0}
HasDefaults (row ∷ rows) o = (row.value o ≡ row.default) × (row.is_set o ≡ false) × HasDefaults rows o

-- the defaults of all options, none of which is set
abbrev pub defaults : Options
defaults = record {
  weight = 1;
  weight_set = false;
  goal = 100;
  goal_set = false;
  name = [];
  name_set = false;
  comment = [];
  comment_set = false;
  at_least = 1;
  at_least_set = false;
  detect_overlap = 0;
  detect_overlap_set = false;
  auto_bin_max = 64;
  auto_bin_max_set = false;
  cross_num_print_missing = 0;
  cross_num_print_missing_set = false;
  per_instance = 0;
  per_instance_set = false;
  get_inst_coverage = 0;
  get_inst_coverage_set = false;
  type_weight = 1;
  type_weight_set = false;
  type_goal = 100;
  type_goal_set = false;
  type_comment = [];
  type_comment_set = false;
  type_strobe = 0;
  type_strobe_set = false;
  type_merge_instances = 0;
  type_merge_instances_set = false;
  type_distribute_first = 0;
  type_distribute_first_set = false;
}

-- what is answered where an option is set, by its row
abbrev pub answer_of : Option Row → Options → Level → OptValue → Result (Unit {0}) OptFault
answer_of None o level value = Err UnknownOption
answer_of (Some row) o level value = refusal (allows row.point row.cross level) (accepts row.values value) (row.is_set o)

-- the options after that: where none is refused, with the value and the mark of this one, and else as before
abbrev pub after_of : Option Row → Options → Level → OptValue → Options
after_of None o level value = o
after_of (Some row) o level value = if is_ok (answer_of (Some row) o level value) then row.with value o else o

abbrev pub answer : Options → Bool → Level → List ℕ → OptValue → Result (Unit {0}) OptFault
answer o on_type level name value = answer_of (row_of on_type name) o level value

abbrev pub after : Options → Bool → Level → List ℕ → OptValue → Options
after o on_type level name value = after_of (row_of on_type name) o level value
