-- What a report prints of waivers that are applied. Each line ends with a newline, and numbers are decimal.
use Rattle.std.specs.Prelude.{ℕ, List, [], ◌∷◌, ◌++◌, codes, decimal, length, nat_lt, Bool, false, if◌then◌else◌}
use Rattle.std.specs.List.{flat_map}
use Rattle.design_data.specs.declared.design.Design.{Design}
use Rattle.ucis_model.specs.declared.node.Node.{Node}
use Rattle.ucis_model.specs.declared.answers.Which.{Which}
use Rattle.ucis_model.specs.declared.answers.Which.TheVariants.{Tests, Bytes, Entries, History}
use Rattle.ucis_model.specs.Paths.{path_of}
use Rattle.cov_history.specs.declared.entry.Entry.{Entry}
use Rattle.cov_history.specs.Nodes.{bins_under}
use Rattle.cov_history.specs.Coverage.{count_at}
use Rattle.cov_history.specs.History.{count_of}
use Rattle.cov_history.specs.Answers.{nodes_at, excluded_at}
use Rattle.store_views.specs.declared.state.BinState.{BinState}
use Rattle.store_views.specs.declared.state.BinState.TheVariants.{Covered, Hole, Out, Uncounted}
use Rattle.store_views.specs.Views.{state_at}
use Rattle.waivers.specs.declared.waiver.Waiver.{Waiver}
use Rattle.waivers.specs.Waived.{waived}
use Rattle.waivers.specs.Texts.{waiver_line as line_of_waiver}

-- ---- waivers

-- how many nodes it leaves out, or that it is stale
abbrev pub line_of : List Node → Waiver → List ℕ
line_of nodes waiver = line_of_waiver (length (waived waiver.pattern nodes)) waiver

abbrev pub waiver_lines : List Node → List Waiver → List ℕ
waiver_lines nodes waivers = flat_map (line_of nodes) waivers

-- ---- bins that are out and were hit all the same

-- a bin that counts for coverage stands so, and was hit so often
abbrev pub is_out_and_hit : BinState → (count : ℕ) → Bool
is_out_and_hit Out count = nat_lt 0 count
is_out_and_hit Covered count = false
is_out_and_hit Hole count = false
is_out_and_hit Uncounted count = false

abbrev pub is_hit_out : List Node → (count : ℕ → ℕ) → (excluded : ℕ → Bool) → ℕ → Bool
is_hit_out nodes count excluded n = is_out_and_hit (state_at nodes count excluded n) (count_at nodes count n)

-- hit COUNT PATH
abbrev pub hit_line : (count : ℕ) → (path : List ℕ) → List ℕ
hit_line count path = codes "hit " ++ (decimal count ++ 32 ∷ (path ++ 10 ∷ []))

abbrev pub line_of_hit : List Node → (count : ℕ → ℕ) → (excluded : ℕ → Bool) → ℕ → List ℕ
line_of_hit nodes count excluded n =
    if is_hit_out nodes count excluded n then hit_line (count_at nodes count n) (path_of nodes n) else []

-- a line for each such bin
abbrev pub hit_lines : (opening : Design) → List Entry → List ℕ
hit_lines opening h =
    flat_map (line_of_hit (nodes_at opening h) (count_of opening h) (excluded_at opening h))
    (bins_under (nodes_at opening h) 0)

-- ---- single lines

-- unwaived C: the coverage of all before the waivers, in millionths
abbrev pub unwaived_line : (millionths : ℕ) → List ℕ
unwaived_line millionths = codes "unwaived " ++ (decimal millionths ++ 10 ∷ [])

unfoldable pub which_word : Which → List ℕ
which_word Tests = codes "tests"
which_word Bytes = codes "bytes"
which_word Entries = codes "entries"
which_word History = codes "history"

abbrev pub amounts_part : (have want : ℕ) → List ℕ
amounts_part have want = 32 ∷ (decimal have ++ 32 ∷ (decimal want ++ 10 ∷ []))

-- waivers refused Full WHICH HAVE WANT: a limit would be passed
abbrev pub full_line : Which → (have want : ℕ) → List ℕ
full_line which have want = codes "waivers refused Full " ++ (which_word which ++ amounts_part have want)
