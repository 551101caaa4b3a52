use Rattle.std.proofs.Common.{◌∙◌, ℕ, ap, arith, length, List}
use Rattle.cov_history.specs.Coverage as meant
use Rattle.cov_history.proofs.Naming.{named_short}
use Rattle.cov_history.proofs.merging.merged_name.Goals as goal

pub merged_item-requires : goal.merged_item-requires
merged_item-requires c =
    let e = ap (λ (bins : List ℕ). length bins) (c.as_slice.ensures.value ∙ c.in_ok-own.ensures) in
    let few = named_short (meant.item_name c.args.nodes.now) c.args.name.now c.args.bins.now in
    let most = c.requires in
    omega (arith, e, few, most)
