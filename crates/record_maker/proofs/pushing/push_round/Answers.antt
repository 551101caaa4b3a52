use Rattle.record_maker.proofs.Rounds.{round_pushed, round_last}
use Rattle.record_maker.proofs.pushing.push_round.Goals as goal

pub returns-clause-pushed : goal.returns-clause-pushed
returns-clause-pushed c =
    round_pushed c.args.design.now c.args.x c.in_ok-middle.middle c.in_ok-last.last c.signals.result.now c.instances.result.now c.signals.ensures c.instances.ensures c.in_ok-middle.ensures.last c.in_ok-middle.ensures.pushed c.in_ok-last.ensures.pushed

pub returns-clause-last : goal.returns-clause-last
returns-clause-last c = round_last c.args.design.now c.args.x c.in_ok-middle.middle c.in_ok-last.last c.signals.result.now c.instances.result.now c.signals.ensures c.instances.ensures c.in_ok-middle.ensures.last c.in_ok-last.ensures.last
