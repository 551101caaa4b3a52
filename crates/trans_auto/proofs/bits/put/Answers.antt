use Rattle.std.proofs.Common.{ap, sym, ◌∙◌}
use Rattle.std.specs.Prelude.{nat_eq}
use Rattle.std.specs.Int.{w128}
use Rattle.std.proofs.lemmas.Nat.Bits.{bit_at_set_same, bit_at_set_other}
use Rattle.trans_auto.proofs.bits.put.Goals as goal

pub returns-then-set-clause-here : goal.returns-then-set-clause-here
returns-then-set-clause-here c = ap (λ b. nat_eq b 1) (bit_at_set_same w128 c.args.mask c.args.k c.requires.in_range) ∙ sym c.if-set.true

pub returns-then-set-clause-others : goal.returns-then-set-clause-others
returns-then-set-clause-others c = λ i ne. ap (λ b. nat_eq b 1) (bit_at_set_other w128 c.args.mask c.args.k c.requires.in_range i ne)
