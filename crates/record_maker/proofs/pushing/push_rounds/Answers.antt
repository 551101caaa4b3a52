use Rattle.record_maker.proofs.Pushes.{goes_on, is_done}
use Rattle.record_maker.proofs.Rounds.{round_step, rounds_end}
use Rattle.record_maker.proofs.pushing.push_rounds.Goals as goal

pub loop-left-preserved : goal.loop-left-preserved
loop-left-preserved c = goes_on _ _ c.loop-left.invariant (round_step c.args.design.now c.loop-left.left c.loop-left.last c.in_ok-last.last c.loop-left-test.true c.in_ok-last.ensures.last) c.in_ok-last.ensures.pushed

pub returns : goal.returns
returns c = is_done c.loop-left.invariant (rounds_end c.args.design.now c.loop-left.left c.loop-left.last c.loop-left-test.false)
