use Rattle.std.proofs.Common.{◌≡◌, take, map}
use Rattle.trans_found.specs.Found.{packed}
use Rattle.trans_found.specs.Alone.{ahead, behind}
use Rattle.trans_found.proofs.alone.with_tail.Given as goal

abbrev pub invariant-loop-group : goal.invariant-loop-group
invariant-loop-group l = l.made.items ≡ packed (map (λ group. ahead l.items (behind l.tail group)) (take l.group-index l.groups))
