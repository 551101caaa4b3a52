-- All bins of a history, a line for each.
use Rattle.std.specs.Prelude.{ℕ, List, Bool}
use Rattle.std.specs.List.{flat_map}
use Rattle.design_data.specs.declared.design.Design.{Design}
use Rattle.ucis_model.specs.declared.node.Node.{Node}
use Rattle.ucis_model.specs.Paths.{node_at, path_of}
use Rattle.cov_history.specs.declared.entry.Entry.{Entry}
use Rattle.cov_history.specs.Nodes.{bins_under, kind_of_bin}
use Rattle.cov_history.specs.Coverage.{count_at}
use Rattle.cov_history.specs.History.{count_of}
use Rattle.cov_history.specs.Answers.{nodes_at, excluded_at}
use Rattle.store_views.specs.Views.{state_at}
use Rattle.export_lists.specs.Lines.{bin_line}

-- the line of the bin that a node is
abbrev pub line_of_bin : List Node → (count : ℕ → ℕ) → (excluded : ℕ → Bool) → ℕ → List ℕ
line_of_bin nodes count excluded n =
    bin_line (node_at nodes n).first_bin (kind_of_bin nodes n) (count_at nodes count n) (state_at nodes count excluded n) (path_of nodes n)

-- a line for each bin, in the order of their numbers
unfoldable pub bins_text : (opening : Design) → List Entry → List ℕ
bins_text opening h =
    flat_map (line_of_bin (nodes_at opening h) (count_of opening h) (excluded_at opening h)) (bins_under (nodes_at opening h) 0)
