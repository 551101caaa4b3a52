use Rattle.std.proofs.Common.{◌≡◌, ◌*◌, ◌≤◌, take}
use Rattle.std.specs.Prelude.{nat_lt}
use Rattle.elab_order.specs.Order.{bins_where}
use Rattle.elab_order.proofs.numbers.bins_before.Given as goal

abbrev pub invariant-loop-load : goal.invariant-loop-load
invariant-loop-load l = (l.bins ≡ bins_where (λ g. nat_lt g l.group) (take l.load-index l.loads)) × (l.bins ≤ l.load-index * 4294967296)
