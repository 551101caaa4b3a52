use Rattle.std.proofs.Common.{◌≡◌, ◌+◌, ◌*◌, ◌≤◌, ◌++◌, take}
use Rattle.std.specs.Prelude.{vec_len, vec_capacity}
use Rattle.std.specs.List.{flat_map}
use Rattle.cov_proto.specs.Spelled.{rank_row}
use Rattle.cov_proto.proofs.reply_writing.append_rank_rows.Given as goal

abbrev pub invariant-loop-row : goal.invariant-loop-row
invariant-loop-row l = record {
  items : l.out.items ≡ l.initial.out.items ++ flat_map rank_row (take l.row-index l.rows);
  long : vec_len l.out ≡ vec_len l.initial.out + 12 * l.row-index;
  room : vec_capacity l.initial.out ≤ vec_capacity l.out;
}
