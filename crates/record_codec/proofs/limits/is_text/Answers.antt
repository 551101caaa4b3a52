use Rattle.std.proofs.Common.{arith, refl}
use Rattle.record_codec.proofs.Answering.{yes, no}
use Rattle.record_codec.proofs.LimitTests.{text_is, text_not}
use Rattle.record_codec.proofs.limits.is_text.Goals as goal

pub returns-in-None : goal.returns-in-None
returns-in-None c = yes _ refl (text_is c.args.least c.args.most c.args.low c.args.text.now (omega (arith, c.if-text-least.false)) (omega (arith, c.if-text-most.false)) c.in-None.ensures)

pub returns-in-Some : goal.returns-in-Some
returns-in-Some c = no _ refl (text_not c.args.least c.args.most c.args.low c.args.text.now (omega (arith, c.if-text-least.false)) (omega (arith, c.if-text-most.false)) c.in-Some.field-0 c.in-Some.ensures)
