use Rattle.std.proofs.Common.{arith}
use Rattle.record_maker.proofs.Pushes.{goes_on, is_done}
use Rattle.record_maker.proofs.Rounds.{set_step, sets_end, after_step, after_end}
use Rattle.record_maker.proofs.pushing.push_sets.Goals as goal

pub loop-signal-preserved : goal.loop-signal-preserved
loop-signal-preserved c =
    let old = c.loop-signal in
    let signal = c.in-Some.signal.now in
    let later = c.in-Some.later.now in
    let is = c.in-Some.ensures.cases.0 in
    let next = c.in_ok-last.last in
    record {
      so_far = goes_on _ _ old.invariant.so_far (set_step old.number old.last next old.rest.now later signal is c.in_ok-last.ensures.last) c.in_ok-last.ensures.pushed;
      last = after_step old.last next old.rest.now later c.args.signals.now signal c.args.x old.invariant.last is c.in_ok-last.ensures.last;
      counted = grind (arith, old.invariant.counted, is);
    }

pub returns-clause-pushed : goal.returns-clause-pushed
returns-clause-pushed c = is_done c.loop-signal.invariant.so_far (sets_end c.loop-signal.number c.loop-signal.last c.loop-signal.rest.now c.in_default.ensures.cases)

pub returns-clause-last : goal.returns-clause-last
returns-clause-last c = after_end c.loop-signal.last c.loop-signal.rest.now c.args.signals.now c.args.x c.loop-signal.invariant.last c.in_default.ensures.cases
