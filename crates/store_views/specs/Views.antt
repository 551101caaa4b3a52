-- What a history says of single nodes, of its bins and of its tests, for those who write it down.
use Rattle.std.specs.Prelude.{ℕ, List, map, find, Option, Bool, ◌&&◌, nat_lt, bytes_eq, if◌then◌else◌}
use Rattle.tally.specs.Rows.{rows_from}
use Rattle.tally.specs.declared.ranked.Ranked.{Ranked}
use Rattle.design_data.specs.declared.design.Design.{Design}
use Rattle.design_data.specs.declared.infos.InstInfo.{InstInfo}
use Rattle.design_data.specs.Bins.{is_coverage}
use Rattle.ucis_model.specs.declared.node.Node.{Node}
use Rattle.ucis_model.specs.declared.answers.CoverRow.{CoverRow}
use Rattle.ucis_model.specs.Paths.{node_at}
use Rattle.cov_history.specs.declared.entry.Entry.{Entry}
use Rattle.cov_history.specs.Tallies.{tally}
use Rattle.cov_history.specs.Nodes.{kind_of_bin, is_illegal}
use Rattle.cov_history.specs.Coverage.{count_at, is_covered}
use Rattle.cov_history.specs.Ranking.{ranking}
use Rattle.cov_history.specs.History.{Test, design_of, tests_of, count_of}
use Rattle.cov_history.specs.Answers.{cover_row, nodes_at, excluded_at, wanted_at}
use Rattle.store_views.specs.declared.state.BinState.{BinState}
use Rattle.store_views.specs.declared.state.BinState.TheVariants.{Covered, Hole, Out, Uncounted}

-- the coverage of each node
abbrev pub rows_at : (opening : Design) → List Entry → ℕ → CoverRow
rows_at opening h = cover_row (nodes_at opening h) (count_of opening h) (excluded_at opening h)

-- the ranking of the tests by the live bins that they cover
abbrev pub ranked_at : (opening : Design) → List Entry → List Ranked
ranked_at opening h = ranking (map (λ t. rows_from 0 (tally (design_of opening h) t.content)) (tests_of h)) (wanted_at opening h)

-- ---- bins

-- how a bin that counts for coverage stands
abbrev pub counted_state : (excluded covered : Bool) → BinState
counted_state excluded covered = if excluded then Out else if covered then Covered else Hole

-- How a bin stands: out where it or a node above it is excluded, else covered where it was hit as often as it has to be
-- (`option.at_least`), else a hole. A bin that isn't one for coverage has no such state (IEEE 1800-2017, 19.5, 19.11).
abbrev pub state_at : List Node → (count : ℕ → ℕ) → (excluded : ℕ → Bool) → ℕ → BinState
state_at nodes count excluded n = if is_coverage (kind_of_bin nodes n) then counted_state (excluded n) (is_covered nodes count n) else Uncounted

-- an illegal bin that was hit (19.5.6)
abbrev pub is_illegal_hit : List Node → (count : ℕ → ℕ) → ℕ → Bool
is_illegal_hit nodes count n = is_illegal (kind_of_bin nodes n) && nat_lt 0 (count_at nodes count n)

-- ---- tests

abbrev pub ids_of : List Test → List (List ℕ)
ids_of tests = map (λ t. t.content.id) tests

-- ---- instances

-- the instance of a name: no two of a design have one
abbrev pub instance_of : List InstInfo → (name : List ℕ) → Option InstInfo
instance_of instances name = find (λ inst. bytes_eq inst.name name) instances

-- the instance that a node is
abbrev pub instance_at : List InstInfo → List Node → ℕ → Option InstInfo
instance_at instances nodes n = instance_of instances (node_at nodes n).name
