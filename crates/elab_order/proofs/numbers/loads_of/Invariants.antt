use Rattle.std.proofs.Common.{◌≡◌, map, take}
use Rattle.elab_order.specs.Order.{load_of}
use Rattle.elab_order.proofs.numbers.loads_of.Given as goal

abbrev pub invariant-loop-inst : goal.invariant-loop-inst
invariant-loop-inst l = l.loads.items ≡ map load_of (take l.inst-index l.instances)
