use Rattle.std.proofs.Common.{◌*◌, ◌&&◌, Bool, ap, ◌∙◌, arith}
use Rattle.std.proofs.lemmas.Bool.{lt-ltb}
use Rattle.product_bits.specs.Marks.{in_run}
use Rattle.product_bits.proofs.runs.fill.Goals as goal

pub returns : goal.returns
returns c n lt =
    let f = in_run c.args.stride c.args.size c.args.chosen.now in
    c.repeat.ensures f c.requires.periods (λ k less. c.mark_runs.ensures k ∙ ap (λ (b : Bool). b && f k) (lt-ltb k (c.args.first * 64) (omega (arith, less)))) n (omega (arith, lt, c.mark_runs.auto.words))
