use Rattle.std.proofs.Common.{◌≡◌, Bool, ◌||◌, ◌&&◌, true, ap, sym, ◌∙◌}
use Rattle.std.proofs.lemmas.Result.{on_ok_weaker}
use Rattle.design_data.specs.Crosses.{picks, takes_from}
use Rattle.product_bits.specs.Numbers.{product_at}
use Rattle.product_bits.proofs.SetLemmas.{marks_as}
use Rattle.elab_crosses.specs.Removal.{takes}
use Rattle.elab_crosses.proofs.left.add_taken.Goals as goal

pub returns : goal.returns
returns c = on_ok_weaker c.add_picked.result (λ added meant marks.
    let sizes = c.args.sizes.now in
    let rule = c.args.made.now.bin.rule in
    let yes' : true ≡ takes_from c.args.made.now.bin.kind c.args.kind = sym c.if-not-takes_from.false ∙ c.takes_from.ensures in
    marks_as sizes _ (λ product. meant product || picks product rule) (λ product. meant product || takes c.args.kind product c.args.made.now.bin)
    (λ n. ap (λ (b : Bool). meant (product_at sizes n) || (b && picks (product_at sizes n) rule)) yes')
    (added meant marks)) c.add_picked.ensures
