use Rattle.std.proofs.Common.{◌≡◌, ◌≤◌, ◌*◌, length, take}
use Rattle.std.specs.List.{flat_map}
use Rattle.cov_proto.specs.Spelled.{test_row}
use Rattle.cov_proto.proofs.reply_writing.test_rows_size.Given as goal

abbrev pub invariant-loop-row : goal.invariant-loop-row
invariant-loop-row l = record {
  is : l.size ≡ length (flat_map test_row (take l.row-index l.rows));
  few : l.size ≤ 1024 * l.row-index;
}
