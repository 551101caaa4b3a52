use Rattle.std.proofs.Common.{◌≡◌, take}
use Rattle.trans_found.proofs.found.key_of.Given as goal

abbrev pub invariant-loop-value : goal.invariant-loop-value
invariant-loop-value l = l.key.items ≡ take l.value-index l.list
