use Rattle.std.proofs.Common.{ap, arith, length, List, ℕ}
use Rattle.std.proofs.lemmas.List.{length-map}
use Rattle.ucis_model.specs.Paths.{node_at}
use Rattle.cov_history.specs.Nodes.{bin_nodes}
use Rattle.store_sums.proofs.marks.marks_of.Goals as goal

pub of-requires : goal.of-requires
of-requires c =
    let nodes = c.args.branches.now in
    let a = ap (λ (ps : List ℕ). length ps) c.in_ok-parents.ensures in
    let b = length-map (bin_nodes nodes) (λ (n : ℕ). (node_at nodes n).parent) in
    let e = ap (λ (ps : List ℕ). length ps) c.bins-bins.ensures.bins in
    omega (arith, a, b, e, c.bins-bins.ensures.few)
