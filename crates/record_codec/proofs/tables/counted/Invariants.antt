use Rattle.std.proofs.Common.{◌≡◌}
use Rattle.std.specs.Prelude.{vec_len, vec_capacity}
use Rattle.record_codec.proofs.Loops.{SoFar}
use Rattle.record_codec.proofs.tables.counted.Given as goal

abbrev pub invariant-loop : goal.invariant-loop
invariant-loop g l = record {
  so_far : SoFar (g.R.Rows.row_at l.rows) l.bytes l.count l.read.items l.rest l.counter;
  room : vec_capacity l.read ≡ l.count;
  long : vec_len l.read ≡ l.counter;
}
