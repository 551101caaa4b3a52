use Rattle.std.proofs.Common.{◌∙◌, refl, ap, Ok, Err}
use Rattle.cov_proto.specs.declared.replies.Body.TheVariants as body
use Rattle.session_table.proofs.Saying.{body_says, told_replies, wants_says}
use Rattle.session_table.proofs.bodies.answer.Goals as goal

pub returns-in-Ok-clause-says : goal.returns-in-Ok-clause-says
returns-in-Ok-clause-says g c = body_says (g.P.Port.opening c.args.port.now) (g.P.Port.caller c.args.port.now) (g.P.Port.seen c.args.port.now) (g.P.Port.own c.args.port.now) (g.P.Port.seen c.answer_request-reply.new.port) (g.P.Port.own c.answer_request-reply.new.port) _ c.args.body.now (Ok c.in-Ok.request) (record { reply = c.answer_request-reply.result; bye = c.is_bye-bye.result }) _ c.in-Ok.ensures.told c.answer_request-reply.ensures.replies c.is_bye-bye.ensures

pub returns-in-Err-BadMessage-clause-says : goal.returns-in-Err-BadMessage-clause-says
returns-in-Err-BadMessage-clause-says g c =
    let r = rw c.in-Err-BadMessage.field-0-is at c.in-Err-BadMessage.ensures in
    body_says (g.P.Port.opening c.args.port.now) (g.P.Port.caller c.args.port.now) (g.P.Port.seen c.args.port.now) (g.P.Port.own c.args.port.now) (g.P.Port.seen c.args.port.now) (g.P.Port.own c.args.port.now) (record { point = c.args.talk.now.point; stage = c.args.talk.now.stage }) c.args.body.now (Err c.in-Err-BadMessage.at) _ _ r.told
    (told_replies (g.P.Port.opening c.args.port.now) (g.P.Port.caller c.args.port.now) (g.P.Port.seen c.args.port.now) (g.P.Port.own c.args.port.now) (record { point = c.args.talk.now.point; stage = c.args.talk.now.stage }) (Err c.in-Err-BadMessage.at) (body.BadMessage c.in-Err-BadMessage.at) c.args.talk.now.stage c.bad_message-reply.result _ c.requires.within refl c.bad_message-reply.ensures.point (c.bad_message-reply.ensures.body ∙ ap body.BadMessage c.in-Err-BadMessage.at-is) c.bad_message-reply.ensures.writable refl) refl

pub returns-in-Err-Memory-clause-says : goal.returns-in-Err-Memory-clause-says
returns-in-Err-Memory-clause-says g c =
    let r = rw c.in-Err-Memory.field-0-is at c.in-Err-Memory.ensures in
    wants_says (g.P.Port.opening c.args.port.now) (g.P.Port.caller c.args.port.now) (g.P.Port.seen c.args.port.now) (g.P.Port.own c.args.port.now) (record { point = c.args.talk.now.point; stage = c.args.talk.now.stage }) c.args.body.now _ c.requires.within r.told c.lacks-reply.ensures.point c.lacks-reply.ensures.body c.lacks-reply.ensures.writable refl
