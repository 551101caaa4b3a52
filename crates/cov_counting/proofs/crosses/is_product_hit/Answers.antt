use Rattle.std.proofs.Common.{◌≡◌, true, refl, subst, sym, ◌∙◌, List, ℕ}
use Rattle.std.proofs.lemmas.Bool.{false≢true}
use Rattle.design_data.specs.Crosses.{has}
use Rattle.cov_counting.specs.Crosses.{AllHitAt}
use Rattle.cov_counting.proofs.Windows.{no, none_more, none_done}
use Rattle.cov_counting.proofs.crosses.is_product_hit.Goals.{then-has+in_ok-are_all_hit+else-branch, else-has}
use Rattle.cov_counting.proofs.crosses.is_product_hit.Goals as goal

pub loop-product-preserved : goal.loop-product-preserved
loop-product-preserved c =
    let b = c.args.bin.now in
    let at = c.as_slice-product.ensures in
    let P : List ℕ → Type 0 = λ p. (has c.args.bins.now b.kind b.rule p ≡ true) × AllHitAt c.args.items.now c.args.axes.now p c.args.samples.now c.args.k in
    none_more P c.args.products.now c.loop-product.product-index c.product-item.result c.loop-product-test.true c.product-item.is c.loop-product.invariant
    (λ h. elim c.if-has.branch [
      | then-has+in_ok-are_all_hit+else-branch w ↦ false≢true (sym w.if-branch.false ∙ w.in_ok-are_all_hit.ensures.1 (subst (λ (p : List ℕ). AllHitAt c.args.items.now c.args.axes.now p c.args.samples.now c.args.k) (sym at) h.1))
      | else-has w ↦ false≢true (sym w.if-has.false ∙ c.has.ensures ∙ subst (λ (p : List ℕ). has c.args.bins.now b.kind b.rule p ≡ true) (sym at) h.0)
    ])

pub returns : goal.returns
returns c =
    let b = c.args.bin.now in
    let P : List ℕ → Type 0 = λ p. (has c.args.bins.now b.kind b.rule p ≡ true) × AllHitAt c.args.items.now c.args.axes.now p c.args.samples.now c.args.k in
    no _ refl (none_done P c.args.products.now c.loop-product.product-index c.loop-product-test.false c.loop-product.invariant)
