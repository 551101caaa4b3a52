use Rattle.std.proofs.Common.{ap, ◌∙◌, FitsSigned}
use mir.Syntax.{w128}
use Rattle.std.proofs.lemmas.Int.{to_z-of_z, wrapping_mul_is}
use Rattle.const_eval.specs.Values.{cut}
use Rattle.const_eval.proofs.Words.{cut_wrapped}
use Rattle.const_eval.proofs.shifts.product.Goals as goal

pub returns-clause-value : goal.returns-clause-value
returns-clause-value c =
    let fits : FitsSigned w128 c.cut.result = record { sfits = c.cut.type_inv } in
    to_z-of_z w128 c.cut.result fits ∙ c.cut.ensures.value ∙ ap (cut c.args.width c.args.signed) (wrapping_mul_is w128 c.args.x c.args.y c.ranges.x c.ranges.y) ∙ cut_wrapped c.args.width c.args.signed _ c.cut.ensures.width.1
