use Rattle.std.proofs.Common.{length}
use Rattle.cov_proto.proofs.Loops.{SoFar}
use Rattle.cov_proto.proofs.rows.all_rows.Given as goal

abbrev pub invariant-loop : goal.invariant-loop
invariant-loop g l = SoFar (g.R.Rows.row_at l.reader) (length l.bytes) l.bytes l.read.items l.rest l.counter
