use Rattle.std.proofs.Common.{refl, arith, sym, ◌∙◌}
use Rattle.std.proofs.lemmas.Bool.{false≢true}
use Rattle.record_codec.proofs.Answering.{yes, no}
use Rattle.record_codec.proofs.LimitTests.{args_length, args_at, args_more, args_done}
use Rattle.record_codec.proofs.limits.are_args.Goals as goal

pub returns-then-rows-args : goal.returns-then-rows-args
returns-then-rows-args c = no _ refl (λ h. omega (arith, args_length c.args.rows.now c.args.args.now h, c.if-rows-args.true))

pub returns-then-not-is_bits : goal.returns-then-not-is_bits
returns-then-not-is_bits c = no _ refl (λ h. false≢true (sym c.if-not-is_bits.true ∙ c.is_bits.ensures.1 (args_at c.args.rows.now c.args.args.now c.loop-index.index _ _ h c.loop-index-test.true)))

pub loop-index-preserved : goal.loop-index-preserved
loop-index-preserved c = args_more c.args.rows.now c.args.args.now c.loop-index.index _ _ (omega (arith, c.if-rows-args.false)) c.loop-index-test.true c.loop-index.invariant (c.is_bits.ensures.0 c.if-not-is_bits.false)

pub returns : goal.returns
returns c = yes _ refl (args_done c.args.rows.now c.args.args.now c.loop-index.index (omega (arith, c.if-rows-args.false)) c.loop-index-test.false c.loop-index.invariant)
