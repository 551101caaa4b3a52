use Rattle.std.proofs.Common.{ap, ◌∙◌, arith, length, List, ℕ}
use Rattle.cov_history.specs.Flags.{flagged}
use Rattle.cov_history.proofs.Weighing.{few_live}
use Rattle.cov_history.proofs.covering.item_at.Goals as goal

pub part-requires : goal.part-requires
part-requires c =
    let e = ap (λ (bins : List ℕ). length bins) (c.as_slice.ensures.value ∙ c.in_ok-live.ensures) in
    let f = few_live c.args.nodes.now (flagged c.args.excluded.now) c.args.place in
    let g = ap (λ (bins : List ℕ). length bins) c.requires.bins in
    omega (arith, e, f, g, c.requires.few)
