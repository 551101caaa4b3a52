use Rattle.std.proofs.Common.{◌≡◌, ◌≤◌, ◌++◌, take}
use Rattle.std.specs.Prelude.{vec_capacity}
use Rattle.std.specs.List.{flat_map}
use Rattle.cov_proto.specs.Spelled.{test_row}
use Rattle.cov_proto.proofs.reply_writing.append_test_rows.Given as goal

abbrev pub invariant-loop-row : goal.invariant-loop-row
invariant-loop-row l = record {
  items : l.out.items ≡ l.initial.out.items ++ flat_map test_row (take l.row-index l.rows);
  room : vec_capacity l.initial.out ≤ vec_capacity l.out;
}
