use Rattle.elab_order.specs.Order.{numbered_from}
use Rattle.elab_order.proofs.Steps.{Numbers}
use Rattle.elab_order.proofs.numbers.number_all.Given as goal

abbrev pub invariant-loop-inst : goal.invariant-loop-inst
invariant-loop-inst l = Numbers l.loads l.done.items l.inst-iterator.rest.items (numbered_from l.loads 0 l.initial.inst-iterator.rest.items)
