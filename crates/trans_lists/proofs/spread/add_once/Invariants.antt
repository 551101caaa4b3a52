use Rattle.std.proofs.Common.{◌≡◌, ◌++◌}
use Rattle.std.specs.Prelude.{replicate}
use Rattle.trans_found.specs.Held.{once}
use Rattle.trans_lists.proofs.spread.add_once.Given as goal

abbrev pub invariant-loop : goal.invariant-loop
invariant-loop l = l.items.items ≡ l.initial.items.items ++ replicate l.counter (once l.item)
