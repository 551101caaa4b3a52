use Rattle.std.proofs.Common.{ℕ, List, ◌++◌, ◌∷◌, ap, ◌∙◌, arith, rules}
use Rattle.elab_crosses.proofs.Completing.{name_more}
use Rattle.elab_crosses.proofs.automatic.product_name.Goals as goal

pub loop-bin-preserved : goal.loop-bin-preserved
loop-bin-preserved c = record {
  same = omega (arith, c.loop-bin.invariant.same);
  rest = name_more c.args.names.now c.loop-bin.text c.add_member.new.text c.args.product.now c.loop-bin.separator c.loop-bin.axis c.loop-bin.bin-index _ _ c.loop-bin-test.true (search rules)
      (c.in_ok-add_member.ensures ∙ ap (λ (xs : List ℕ). c.loop-bin.text ++ c.loop-bin.separator ∷ xs) c.member_name.ensures) c.loop-bin.invariant.rest;
}
