use Rattle.std.proofs.Common.{◌≡◌, ◌∙◌, ◌-◌, arith, refl, sym, subst, [], length, None}
use Rattle.cov_proto.specs.Frames.{HasBadLength}
use Rattle.cov_session.proofs.Chain.{ran_then}
use Rattle.cov_session.proofs.Parts.{ran_start}
use Rattle.cov_session.proofs.Causing.{rose_after}
use Rattle.cov_session.proofs.Close.{ends_memory, ends_bye, ends_fault, ends_length, ends_long, ends_read, ends_input, ends_torn, torn_short, read_ran}
use Rattle.cov_session.proofs.serving.session.Goals as goal

pub returns-in_default-clause-session : goal.returns-in_default-clause-session
returns-in_default-clause-session g c = ends_memory {w = record { left = g.L.Link.left c.args.link.now; held = []; place = record { point = length (g.P.Port.seen c.args.port.now); stage = None }; seen = g.P.Port.seen c.args.port.now; own = g.P.Port.own c.args.port.now; written = g.L.Link.written c.args.link.now }} (record { empty = refl; place = refl }) (omega arith)

pub returns-in_default-with_capacity-clause-session : goal.returns-in_default-with_capacity-clause-session
returns-in_default-with_capacity-clause-session g c = ends_memory {w = record { left = g.L.Link.left c.args.link.now; held = []; place = record { point = length (g.P.Port.seen c.args.port.now); stage = None }; seen = g.P.Port.seen c.args.port.now; own = g.P.Port.own c.args.port.now; written = g.L.Link.written c.args.link.now }} (record { empty = refl; place = refl }) (omega arith)

pub loop-talk-init : goal.loop-talk-init
loop-talk-init g c = record { rest = refl; opening = refl; caller = refl; space = c.in-Ok-with_capacity.ensures.capacity; within = omega (arith, c.new-talk.ensures.point, c.point.ensures); low = omega arith; read = omega arith; write = omega arith; ran = ran_start (g.P.Port.opening c.args.port.now) (g.P.Port.caller c.args.port.now) (c.args.most - c.args.most) (g.L.Link.left c.args.link.now) (g.L.Link.written c.args.link.now) (g.P.Port.seen c.args.port.now) (g.P.Port.own c.args.port.now) c.in-Ok.inbox c.new-talk.result.point c.new-talk.result.stage c.in-Ok.ensures (c.new-talk.ensures.point ∙ c.point.ensures) c.new-talk.ensures.stage (omega arith) }

pub returns-in-Err-Bye-clause-session : goal.returns-in-Err-Bye-clause-session
returns-in-Err-Bye-clause-session g c = ends_bye (record { empty = refl; place = refl }) (omega arith) c.loop-talk.invariant.ran (rw (c.in-Err-Bye.field-0-is, c.loop-talk.invariant.opening, c.loop-talk.invariant.caller) at c.in-Err-Bye.ensures.stops)

pub returns-in-Err-FrameTooLong-clause-session : goal.returns-in-Err-FrameTooLong-clause-session
returns-in-Err-FrameTooLong-clause-session g c = let s = rw (c.in-Err-FrameTooLong.field-0-is, c.loop-talk.invariant.opening, c.loop-talk.invariant.caller) at c.in-Err-FrameTooLong.ensures.stops in ends_length (record { empty = refl; place = refl }) (omega arith) c.loop-talk.invariant.ran s.0 (subst (λ n. HasBadLength n c.answer_all.new.inbox) (sym c.in-Err-FrameTooLong.len-is) s.1)

pub returns-in-Err-WriteFault-clause-session : goal.returns-in-Err-WriteFault-clause-session
returns-in-Err-WriteFault-clause-session g c = ends_fault (record { empty = refl; place = refl }) (omega arith) c.loop-talk.invariant.ran (rw (c.in-Err-WriteFault.field-0-is, c.loop-talk.invariant.opening, c.loop-talk.invariant.caller) at c.in-Err-WriteFault.ensures.stops)

pub returns-in-Err-WriteFault-clause-write_cause : goal.returns-in-Err-WriteFault-clause-write_cause
returns-in-Err-WriteFault-clause-write_cause g c = λ e. rose_after _ _ _ c.loop-talk.invariant.write (rw c.in-Err-WriteFault.field-0-is at c.in-Err-WriteFault.ensures.cause)

pub returns-then-room-eq0-clause-session : goal.returns-then-room-eq0-clause-session
returns-then-room-eq0-clause-session g c = let s = rw (c.loop-talk.invariant.opening, c.loop-talk.invariant.caller) at c.in-Ok-answer_all.ensures.stops in let e : c.loop-talk.room ≡ 0 = c.if-room-eq0.true in ends_long (record { empty = refl; place = refl }) c.loop-talk.invariant.ran s.0 s.1 (omega arith)

pub fill-requires-clause-room : goal.fill-requires-clause-room
fill-requires-clause-room g c = torn_short c.answer_all.new.inbox c.in-Ok-answer_all.ensures.stops.1

pub returns-in-Err-clause-session : goal.returns-in-Err-clause-session
returns-in-Err-clause-session g c = let s = rw (c.loop-talk.invariant.opening, c.loop-talk.invariant.caller) at c.in-Ok-answer_all.ensures.stops in rw c.in-Err.ensures.written (ends_read (g.L.Link.left c.fill.new.link) (record { empty = refl; place = refl }) (omega (arith, c.loop-talk.invariant.low, c.if-room-eq0.false)) c.loop-talk.invariant.ran s.0 s.1 c.in-Err.ensures.fills.1)

pub returns-in-Err-clause-read_cause : goal.returns-in-Err-clause-read_cause
returns-in-Err-clause-read_cause g c = λ e. rose_after _ _ _ (omega (arith, c.loop-talk.invariant.read, c.in-Ok-answer_all.ensures.same_faults)) c.in-Err.ensures.cause.failed

pub returns-then-rest-eq0-clause-session : goal.returns-then-rest-eq0-clause-session
returns-then-rest-eq0-clause-session g c =
    let s = rw (c.loop-talk.invariant.opening, c.loop-talk.invariant.caller) at c.in-Ok-answer_all.ensures.stops in
    rw c.in-Ok-eq0.ensures.written (ends_input (record { empty = refl; place = refl }) (omega (arith, c.loop-talk.invariant.low, c.if-room-eq0.false)) c.loop-talk.invariant.ran s.0 c.in-Ok-eq0.ensures.fills c.in-Ok-eq0.field-0-test (sym c.len-rest.ensures ∙ c.if-rest-eq0.true))

pub returns-in-Ok-eq0-clause-session : goal.returns-in-Ok-eq0-clause-session
returns-in-Ok-eq0-clause-session g c =
    let s = rw (c.loop-talk.invariant.opening, c.loop-talk.invariant.caller) at c.in-Ok-answer_all.ensures.stops in
    rw c.in-Ok-eq0.ensures.written (ends_torn (record { empty = refl; place = refl }) (omega (arith, c.loop-talk.invariant.low, c.if-room-eq0.false)) c.loop-talk.invariant.ran s.0 s.1 c.in-Ok-eq0.ensures.fills c.in-Ok-eq0.field-0-test (let n : c.len-rest.result ≡ length c.fill.new.self = c.len-rest.ensures in omega (arith, n, c.if-rest-eq0.false)))

pub loop-talk-preserved : goal.loop-talk-preserved
loop-talk-preserved g c =
    let s = rw (c.loop-talk.invariant.opening, c.loop-talk.invariant.caller) at c.in-Ok-answer_all.ensures.stops in
    let f = c.in-Ok-fill.ensures.fills in
    record {
      rest = c.in-Ok-answer_all.ensures.rest ∙ c.loop-talk.invariant.rest;
      opening = c.in-Ok-answer_all.ensures.opening ∙ c.loop-talk.invariant.opening;
      caller = c.in-Ok-answer_all.ensures.caller ∙ c.loop-talk.invariant.caller;
      space = c.in-Ok-answer_all.ensures.room;
      within = s.0.goes.within;
      low = omega (arith, c.loop-talk.invariant.low);
      read = omega (arith, c.loop-talk.invariant.read, c.in-Ok-answer_all.ensures.same_faults, c.in-Ok-fill.ensures.cause.later);
      write = omega (arith, c.loop-talk.invariant.write, c.in-Ok-answer_all.ensures.later, c.in-Ok-fill.ensures.same_faults);
      ran = rw c.in-Ok-fill.ensures.written (read_ran (g.L.Link.left c.fill.new.link) c.fill.new.self f.got (ran_then c.loop-talk.invariant.ran s.0 refl) f.long f.is f.takes (omega (arith, c.loop-talk.invariant.low, c.in-Ok-fill.ensures.bound)));
    }
