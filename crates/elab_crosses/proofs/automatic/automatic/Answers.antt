use Rattle.std.proofs.Common.{◌-◌, ℕ, length, ap, sym, subst, ◌∙◌}
use Rattle.design_data.specs.Laws.{automatic_products}
use Rattle.product_bits.specs.Numbers.{at_most}
use Rattle.elab_base.specs.declared.fault.ElabFault.{ElabFault}
use Rattle.elab_base.specs.Gives.{Fails}
use Rattle.elab_crosses.specs.Removal.{infos, automatic_fit}
use Rattle.elab_crosses.proofs.Completing.{fit_some, fit_none}
use Rattle.elab_crosses.proofs.automatic.automatic.Goals as goal

pub returns-in-Some-clause-automatic : goal.returns-in-Some-clause-automatic
returns-in-Some-clause-automatic c =
    let all = automatic_products c.args.sizes.now (infos c.args.bins) in
    fit_some (length c.args.bins) all c.in-Some.products c.args.at c.requires.few
    (sym c.in-Some.is ∙ (c.in_ok-products.ensures.automatic ∙ ap (λ (n : ℕ). at_most (65536 - n) all) (ap length c.as_slice.ensures)))

pub returns-in-None-clause-automatic : goal.returns-in-None-clause-automatic
returns-in-None-clause-automatic c =
    let all = automatic_products c.args.sizes.now (infos c.args.bins) in
    subst (λ (e : ElabFault). Fails e (automatic_fit (length c.args.bins) all c.args.at)) (sym c.at.ensures)
    (fit_none (length c.args.bins) all c.args.at c.requires.few
    (sym c.in-None.is ∙ (c.in_ok-products.ensures.automatic ∙ ap (λ (n : ℕ). at_most (65536 - n) all) (ap length c.as_slice.ensures))))
