use Rattle.std.proofs.Common.{take}
use Rattle.std.specs.Prelude.{All}
use Rattle.trans_found.specs.Lists.{IsShort}
use Rattle.trans_lists.proofs.listing.first_too_long.Given as goal

abbrev pub invariant-loop-seq : goal.invariant-loop-seq
invariant-loop-seq l = All IsShort (take l.seq-index l.seqs)
