use Rattle.std.proofs.Common.{take, map, Some}
use Rattle.trans_auto.specs.Masks.{SeqsHold}
use Rattle.trans_auto.proofs.side.Side.has.Given as goal

abbrev pub invariant-loop-k : goal.invariant-loop-k
invariant-loop-k l = SeqsHold 0 l.mask (map Some (take l.k l.list)) l.self
