-- Nodes that are excluded by the paths at nodes, and by paths.
use Rattle.std.proofs.Common.{◌≡◌, ℕ, List, sym, Option, None, is_some}
use Rattle.std.specs.Prelude.{slice_index_or}
use Rattle.ucis_model.specs.Above as above
use Rattle.ucis_model.specs.declared.node.Node.{Node}
use Rattle.cov_history.specs.Nodes.{parents_of}
use Rattle.cov_history.specs.Coverage.{is_out, is_excluded}
use Rattle.store_sums.specs.Now.{excluded_by}

-- where a path stands at each node that one of some paths finds, and at no other
pub excluded_same : (nodes others : List Node) (out : List (Option (List ℕ))) (outs : List (List ℕ)) → nodes ≡ others → ((n : ℕ) → is_out others outs n ≡ is_some (slice_index_or out n None)) → excluded_by nodes out ≡ is_excluded others outs
unfolding excluded_by is_excluded
excluded_same nodes others out outs same flag = λ i n. above.is_excluded (parents_of (same i)) (λ m. sym (flag m) i) n
