-- What the sums of a store say is what its entries say.
use Rattle.std.proofs.Common.{◌≡◌, ℕ, List, map, Option}
use Rattle.std.specs.Prelude.{slice_index}
use Rattle.design_data.specs.declared.design.Design.{Design}
use Rattle.ucis_model.specs.declared.node.Node.{Node}
use Rattle.ucis_model.specs.Paths.{node_at}
use Rattle.cov_history.specs.declared.entry.Entry.{Entry}
use Rattle.cov_history.specs.Coverage.{live_under}
use Rattle.cov_history.specs.History.{Test, out_of, count_of}
use Rattle.cov_history.specs.Answers.{nodes_at, excluded_at, wanted_at}
use Rattle.store_sums.specs.Now.{excluded_by}
use Rattle.store_sums.proofs.Excluded.{excluded_same}
use Rattle.store_parts.specs.Keeps.{Keeps}
use Rattle.store_parts.proofs.Excluding.{out_flag}

module _ {opening design : Design} {nodes : List Node} {h : List Entry} {tests : List (List ℕ × Test)} {tallies : List (List (ℕ × ℕ))} {counts : List ℕ} {out : List (Option (List ℕ))} {outs bytes entries revised : ℕ} (k : Keeps opening design nodes h tests tallies counts out outs bytes entries revised) where
  pub same_excluded : excluded_by nodes out ≡ excluded_at opening h
  same_excluded = excluded_same nodes (nodes_at opening h) out (out_of h) k.nodes_are (out_flag k)

  pub same_count : slice_index counts ≡ count_of opening h
  same_count = λ i bin. k.sums.at bin i

  pub same_wanted : map (λ n. ((node_at nodes n).first_bin, (node_at nodes n).at_least)) (live_under nodes (excluded_by nodes out) 0) ≡ wanted_at opening h
  same_wanted = λ i. map (λ n. ((node_at (k.nodes_are i) n).first_bin, (node_at (k.nodes_are i) n).at_least)) (live_under (k.nodes_are i) (same_excluded i) 0)
