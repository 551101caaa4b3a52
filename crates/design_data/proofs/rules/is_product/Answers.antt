use Rattle.std.proofs.Common.{refl, arith}
use Rattle.design_data.proofs.Answering.{yes, no}
use Rattle.design_data.proofs.Parts.{product_length, product_at, product_more, product_done}
use Rattle.design_data.proofs.rules.is_product.Goals as goal

pub returns-then-sizes-members : goal.returns-then-sizes-members
returns-then-sizes-members c = no _ refl (λ h. omega (arith, product_length c.args.sizes.now c.args.members.now h, c.if-sizes-members.true))

pub returns-then-members-index : goal.returns-then-members-index
returns-then-members-index c = no _ refl (λ h. omega (arith, product_at c.args.sizes.now c.args.members.now c.loop-index.index 0 0 h c.loop-index-test.true, c.if-members-index.true))

pub loop-index-preserved : goal.loop-index-preserved
loop-index-preserved c = product_more c.args.sizes.now c.args.members.now c.loop-index.index 0 0 (omega (arith, c.if-sizes-members.false)) c.loop-index-test.true c.loop-index.invariant (omega (arith, c.if-members-index.false))

pub returns : goal.returns
returns c = yes _ refl (product_done c.args.sizes.now c.args.members.now c.loop-index.index (omega (arith, c.if-sizes-members.false)) c.loop-index-test.false c.loop-index.invariant)
