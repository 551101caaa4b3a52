use Rattle.std.proofs.Common.{ap, List, arith}
use Rattle.trans_seq.specs.declared.seq.Seq.{Seq}
use Rattle.trans_seq.specs.Cells.{cells_of_seqs}
use Rattle.point_sampler.proofs.planning.removers_of.Goals as goal

pub removing-requires-2 : goal.removing-requires-2
removing-requires-2 c = omega (arith, c.requires.point.removing, c.cells_of_joined_lists.ensures c.args.item.now.ignored c.args.item.now.illegal, ap (λ (s : List Seq). cells_of_seqs s) c.as_slice.ensures)
