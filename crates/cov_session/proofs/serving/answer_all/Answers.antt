use Rattle.std.proofs.Common.{◌∙◌, arith, refl}
use Rattle.cov_session.proofs.Chain.{ran_then, bye_then, fault_then, frame_ran, frame_bye, frame_fault}
use Rattle.cov_session.proofs.Parts.{ran_none}
use Rattle.cov_session.proofs.Causing.{rose_after}
use Rattle.cov_session.proofs.serving.answer_all.Goals as goal

pub loop-len-init : goal.loop-len-init
loop-len-init g c = record { rest = refl; opening = refl; caller = refl; room = c.requires.room; within = c.requires.within; later = omega arith; same = refl; ran = ran_none (g.P.Port.opening c.args.port.now) (g.P.Port.caller c.args.port.now) _ c.requires.within }

pub returns-in-Err-clause-stops : goal.returns-in-Err-clause-stops
returns-in-Err-clause-stops g c = let f = rw (c.loop-len.invariant.opening, c.loop-len.invariant.caller) at c.in-Err.ensures.framed in fault_then c.loop-len.invariant.ran (frame_fault f.1) refl

pub returns-in-Err-clause-cause : goal.returns-in-Err-clause-cause
returns-in-Err-clause-cause g c = rose_after _ _ _ c.loop-len.invariant.later c.in-Err.ensures.cause.failed

pub returns-in-Ok-true-clause-stops : goal.returns-in-Ok-true-clause-stops
returns-in-Ok-true-clause-stops g c = let f = rw (c.in-Ok-true.field-0-test, c.loop-len.invariant.opening, c.loop-len.invariant.caller) at c.in-Ok-true.ensures.framed in bye_then c.loop-len.invariant.ran (frame_bye f) refl

pub loop-len-preserved : goal.loop-len-preserved
loop-len-preserved g c = let f = rw (c.in-Ok-false.field-0-test, c.loop-len.invariant.opening, c.loop-len.invariant.caller) at c.in-Ok-false.ensures.framed in
    record {
      rest = c.in-Ok-false.ensures.rest ∙ c.loop-len.invariant.rest;
      opening = c.in-Ok-false.ensures.opening ∙ c.loop-len.invariant.opening;
      caller = c.in-Ok-false.ensures.caller ∙ c.loop-len.invariant.caller;
      room = c.in-Ok-false.ensures.room;
      within = f.goes.within;
      later = omega (arith, c.loop-len.invariant.later, c.in-Ok-false.ensures.cause.later);
      same = c.in-Ok-false.ensures.same_faults ∙ c.loop-len.invariant.same;
      ran = ran_then c.loop-len.invariant.ran (frame_ran f) refl;
    }
