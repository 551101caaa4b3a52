use Rattle.std.proofs.Common.{◌+◌, ◌*◌, length, sym, ◌∙◌}
use Rattle.record_maker.proofs.Rounds.{rounds_count}
use Rattle.record_maker.proofs.making.event_count.Goals as goal

pub returns : goal.returns
returns c = λ x. (λ i. c.args.rounds * (length (c.signals.ensures i) + length (c.instances.ensures i))) ∙ sym (rounds_count c.args.design.now c.args.rounds x)
