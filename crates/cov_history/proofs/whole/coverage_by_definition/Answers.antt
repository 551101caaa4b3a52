use Rattle.std.proofs.Common.{◌∙◌, ap, arith, length, List, ℕ}
use Rattle.cov_history.proofs.Weighing.{few_bins}
use Rattle.cov_history.proofs.whole.coverage_by_definition.Goals as goal

pub coverage_by-requires-clause-few : goal.coverage_by-requires-clause-few
coverage_by-requires-clause-few c =
    let e = ap (λ (bins : List ℕ). length bins) (c.as_slice.ensures.value ∙ c.in_ok-bins.ensures.bins) in
    let few = few_bins c.args.nodes.now in
    let most = c.requires in
    omega (arith, e, few, most)
