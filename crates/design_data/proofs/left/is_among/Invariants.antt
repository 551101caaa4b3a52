use Rattle.std.proofs.Common.{◌≡◌, take, false}
use Rattle.std.specs.List.{list_any}
use Rattle.design_data.specs.Left.{is_same_seq}
use Rattle.design_data.proofs.left.is_among.Given as goal

abbrev pub invariant-loop-other : goal.invariant-loop-other
invariant-loop-other l = list_any (is_same_seq l.seq) (take l.other-index l.seqs) ≡ false
