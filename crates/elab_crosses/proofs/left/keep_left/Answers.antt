use Rattle.std.proofs.Common.{[], ◌∷◌, ◌++◌, Bool, cond, ap, sym, ◌∙◌}
use Rattle.std.proofs.lemmas.Result.{on_ok_weaker}
use Rattle.design_data.specs.Crosses.{picks, is_left}
use Rattle.elab_crosses.proofs.left.keep_left.Goals as goal

pub returns-clause-kept : goal.returns-clause-kept
returns-clause-kept c = on_ok_weaker c.keep_if.result (λ kept bins free.
    let sizes = c.args.sizes.now in
    let rule = c.args.made.bin.rule in
    let has = c.shares.ensures sizes (λ product. picks product rule) (is_left bins c.args.made.bin.kind) (sym c.requires.count)
    c.in_ok-bits.ensures free in
    kept ∙ ap (λ (b : Bool). c.args.kept.now ++ cond b (c.args.made ∷ []) []) has) c.keep_if.ensures

pub returns-clause-picked : goal.returns-clause-picked
returns-clause-picked c = on_ok_weaker c.keep_if.result (λ kept meant marks. c.unite.ensures.marks c.args.sizes.now meant (λ product. picks product c.args.made.bin.rule) marks c.in_ok-bits.ensures) c.keep_if.ensures
