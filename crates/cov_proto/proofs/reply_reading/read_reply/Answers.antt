use Rattle.std.proofs.Common.{arith, subst, Err}
use Rattle.request_forms.specs.declared.fault.Fault.{Fault}
use Rattle.cov_proto.specs.declared.replies.Reply.{Reply}
use Rattle.request_forms.specs.Given.{GivesOrLacks}
use Rattle.cov_proto.specs.Replies.{reply_left}
use Rattle.cov_proto.proofs.ReplyLaws.{spells_left, none_left}
use Rattle.cov_proto.proofs.reply_reading.read_reply.Goals as goal

pub returns-in-Ok-clause-spelled : goal.returns-in-Ok-clause-spelled
returns-in-Ok-clause-spelled c = spells_left c.args.body.now c.in-Ok.reply (λ i. omega (arith, c.type_inv.body i)) c.in-Ok.ensures.given

pub returns-in-Err-At-clause-none : goal.returns-in-Err-At-clause-none
returns-in-Err-At-clause-none c = none_left c.args.body.now c.in-Err-At.left (subst (λ (f : Fault). GivesOrLacks {X = Reply} (λ x. x) (Err f) (reply_left c.args.body.now)) c.in-Err-At.field-0-is c.in-Err-At.ensures.given)
