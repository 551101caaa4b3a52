use Rattle.std.proofs.Common.{◌∙◌, ◌+◌, arith, rules, ap, sym, subst, take, drop, List, ℕ, ◌-◌, ◌++◌, ◌≤◌, length}
use Rattle.cov_spec.specs.Told.{Grows}
use Rattle.cov_proto.specs.Frames.{longest_body}
use Rattle.cov_session.specs.Streams.{reply_frame}
use Rattle.cov_session.proofs.Parts.{one_frame, frame_body, frame_long, frame_short, frame_room, writable_spelled, writable_short}
use Rattle.cov_session.proofs.serving.answer_frame.Goals as goal

pub answer-said-requires-clause-short : goal.answer-said-requires-clause-short
answer-said-requires-clause-short g c =
    let h = subst (λ (l : List ℕ). length (take (4 + c.args.len - 4) (drop 4 l)) ≤ longest_body) (sym c.as_slice.ensures) (frame_short c.args.len (4 + c.args.len - 4) c.args.inbox.now c.requires.frame (omega arith)) in search rules

pub write_reply-requires-clause-room : goal.write_reply-requires-clause-room
write_reply-requires-clause-room g c = frame_room c.answer-said.result.reply _ _ c.answer-said.ensures.says.writable (search rules) (search rules)

pub write_reply-requires-clause-spelled : goal.write_reply-requires-clause-spelled
write_reply-requires-clause-spelled g c = writable_spelled c.answer-said.result.reply c.answer-said.ensures.says.writable

pub write_reply-requires-clause-short : goal.write_reply-requires-clause-short
write_reply-requires-clause-short g c = writable_short c.answer-said.result.reply c.answer-said.ensures.says.writable

pub returns-in-Ok-clause-framed : goal.returns-in-Ok-clause-framed
returns-in-Ok-clause-framed g c =
    let long = frame_long c.args.len c.args.inbox.now c.requires.frame in
    one_frame (g.P.Port.opening c.args.port.now) (g.P.Port.caller c.args.port.now) c.args.len
    (record { left = g.L.Link.left c.args.link.now; held = c.args.inbox.now; place = record { point = c.args.talk.now.point; stage = c.args.talk.now.stage }; seen = g.P.Port.seen c.args.port.now; own = g.P.Port.own c.args.port.now; written = g.L.Link.written c.args.link.now })
    (record { left = g.L.Link.left c.write_all.new.link; held = c.advance.new.self; place = record { point = c.answer-said.new.talk.point; stage = c.answer-said.new.talk.stage }; seen = g.P.Port.seen c.answer-said.new.port; own = g.P.Port.own c.answer-said.new.port; written = g.L.Link.written c.write_all.new.link })
    _ c.answer-said.result c.requires.frame (rw c.as_slice.ensures (frame_body c.args.len (4 + c.args.len - 4) c.args.inbox.now c.requires.frame (omega arith))) c.advance.ensures c.write_all.ensures.left c.answer-said.ensures.says (λ r. Grows (g.L.Link.written c.args.link.now) (g.L.Link.written c.write_all.new.link) (reply_frame r)) (subst (λ (l : List ℕ). Grows (g.L.Link.written c.args.link.now) (g.L.Link.written c.write_all.new.link) l) (c.as_slice-2.ensures.value ∙ (c.write_reply.ensures.items ∙ ap (λ l. l ++ reply_frame c.answer-said.result.reply) c.clear.ensures.items)) c.in-Ok.ensures.ok)

pub returns-clause-framed : goal.returns-clause-framed
returns-clause-framed g c =
    let long = frame_long c.args.len c.args.inbox.now c.requires.frame in (
      c.answer-said.result.bye,
      one_frame (g.P.Port.opening c.args.port.now) (g.P.Port.caller c.args.port.now) c.args.len
          (record { left = g.L.Link.left c.args.link.now; held = c.args.inbox.now; place = record { point = c.args.talk.now.point; stage = c.args.talk.now.stage }; seen = g.P.Port.seen c.args.port.now; own = g.P.Port.own c.args.port.now; written = g.L.Link.written c.args.link.now })
          (record { left = g.L.Link.left c.write_all.new.link; held = c.advance.new.self; place = record { point = c.answer-said.new.talk.point; stage = c.answer-said.new.talk.stage }; seen = g.P.Port.seen c.answer-said.new.port; own = g.P.Port.own c.answer-said.new.port; written = g.L.Link.written c.write_all.new.link })
          _ c.answer-said.result c.requires.frame (rw c.as_slice.ensures (frame_body c.args.len (4 + c.args.len - 4) c.args.inbox.now c.requires.frame (omega arith))) c.advance.ensures c.write_all.ensures.left c.answer-said.ensures.says (λ r. (n : ℕ) × Grows (g.L.Link.written c.args.link.now) (g.L.Link.written c.write_all.new.link) (take n (reply_frame r))) (subst (λ (l : List ℕ). (n : ℕ) × Grows (g.L.Link.written c.args.link.now) (g.L.Link.written c.write_all.new.link) (take n l)) (c.as_slice-2.ensures.value ∙ (c.write_reply.ensures.items ∙ ap (λ l. l ++ reply_frame c.answer-said.result.reply) c.clear.ensures.items)) c.in-Err.ensures.err),
    )
