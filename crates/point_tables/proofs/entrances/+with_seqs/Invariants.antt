use Rattle.std.proofs.Common.{length}
use Rattle.point_tables.proofs.entrances.+with_seqs.Given as goal

abbrev pub decreases-with_seqs : goal.decreases-with_seqs
decreases-with_seqs l = length l.seqs.now
