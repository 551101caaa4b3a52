use Rattle.std.proofs.Common.{◌∙◌, ℕ, List, length, ap, arith}
use Rattle.cov_history.specs.Flags.{flagged}
use Rattle.cov_history.proofs.Weighing.{few_live, few_bins}
use Rattle.cov_history.proofs.asking.live_bins.Goals as goal

pub covered-requires : goal.covered-requires
covered-requires c =
    let nodes = c.args.nodes.now in
    let e = ap (λ (bins : List ℕ). length bins) (c.as_slice-2.ensures.value ∙ c.in_ok-live.ensures) in
    let f = few_live nodes (flagged c.args.excluded.now) c.args.place in
    let g = few_bins nodes in
    let most = c.requires in
    omega (arith, e, f, g, most)

pub overflow_cast-result : goal.overflow_cast-result
overflow_cast-result c =
    let nodes = c.args.nodes.now in
    let e = ap (λ (bins : List ℕ). length bins) c.in_ok-live.ensures in
    let f = few_live nodes (flagged c.args.excluded.now) c.args.place in
    let g = few_bins nodes in
    let len = c.len.ensures in
    let most = c.requires in
    omega (arith, e, f, g, len, most)
