use Rattle.std.proofs.Common.{◌≡◌, ◌+◌, List, [], ◌∷◌, ◌++◌, arith}
use Rattle.trans_seq.specs.declared.seq.Seq.{Seq}
use Rattle.trans_seq.specs.Cells.{cells_of_seqs}
use Rattle.trans_seq.proofs.laws.cells_of_joined_lists.Goals as goal

joined : (first rest : List Seq) → cells_of_seqs (first ++ rest) ≡ cells_of_seqs first + cells_of_seqs rest
joined [] rest = omega arith
joined (seq ∷ first) rest = let more : cells_of_seqs (first ++ rest) ≡ cells_of_seqs first + cells_of_seqs rest = joined first rest in omega (arith, more)

pub returns : goal.returns
returns c = joined
