use Rattle.std.proofs.Common.{◌≡◌, ◌++◌, take, map}
use Rattle.trans_found.proofs.alone.add_group.Given as goal

abbrev pub invariant-loop-rest : goal.invariant-loop-rest
invariant-loop-rest l = l.lists.items ≡ l.initial.lists.items ++ map (λ rest. l.first ++ (l.tail ++ rest)) (take l.rest-index l.group)
