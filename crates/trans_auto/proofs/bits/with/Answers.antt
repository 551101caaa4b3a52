use Rattle.std.proofs.Common.{◌&&◌, ◌||◌, ap, sym, ◌∙◌}
use Rattle.std.proofs.Math.Bool.{or-false}
use Rattle.trans_auto.specs.Masks.{has_bit}
use Rattle.trans_auto.proofs.BitLemmas.{has-or}
use Rattle.trans_auto.proofs.bits.with.Goals as goal

pub returns-then-wanted : goal.returns-then-wanted
returns-then-wanted c = λ k. has-or c.args.start c.args.mask k ∙ ap (λ b. has_bit c.args.start k || b && has_bit c.args.mask k) (sym c.if-wanted.true)

pub returns-else-wanted : goal.returns-else-wanted
returns-else-wanted c = λ k. sym (ap (λ b. has_bit c.args.start k || b && has_bit c.args.mask k) c.if-wanted.false ∙ or-false (has_bit c.args.start k))
