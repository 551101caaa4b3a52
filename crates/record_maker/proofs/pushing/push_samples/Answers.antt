use Rattle.std.proofs.Common.{arith}
use Rattle.record_maker.proofs.Pushes.{goes_on, is_done}
use Rattle.record_maker.proofs.Rounds.{sample_step, samples_end, samples_after, samples_after_end}
use Rattle.record_maker.proofs.pushing.push_samples.Goals as goal

pub loop-instance-preserved : goal.loop-instance-preserved
loop-instance-preserved c =
    let old = c.loop-instance in
    let instance = c.in-Some.instance.now in
    let later = c.in-Some.later.now in
    let is = c.in-Some.ensures.cases.0 in
    let next = c.in_ok-last.last in
    record {
      so_far = goes_on _ _ old.invariant.so_far (sample_step old.number old.last next old.rest.now later instance is c.in_ok-last.ensures.last) c.in_ok-last.ensures.pushed;
      last = samples_after old.last next old.rest.now later c.args.instances.now instance c.args.x old.invariant.last is c.in_ok-last.ensures.last;
      counted = grind (arith, old.invariant.counted, is);
    }

pub returns-clause-pushed : goal.returns-clause-pushed
returns-clause-pushed c = is_done c.loop-instance.invariant.so_far (samples_end c.loop-instance.number c.loop-instance.last c.loop-instance.rest.now c.in_default.ensures.cases)

pub returns-clause-last : goal.returns-clause-last
returns-clause-last c = samples_after_end c.loop-instance.last c.loop-instance.rest.now c.args.instances.now c.args.x c.loop-instance.invariant.last c.in_default.ensures.cases
