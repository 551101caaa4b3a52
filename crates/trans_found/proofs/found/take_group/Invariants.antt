use Rattle.std.proofs.Common.{◌++◌, take, map}
use Rattle.trans_found.specs.Found.{Takes}
use Rattle.trans_found.proofs.found.take_group.Given as goal

abbrev pub invariant-loop-rest : goal.invariant-loop-rest
invariant-loop-rest l = Takes l.initial.found l.found (map (λ rest. l.first ++ rest) (take l.rest-index l.group))
