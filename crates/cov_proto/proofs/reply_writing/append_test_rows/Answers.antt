use Rattle.std.proofs.Common.{arith}
use Rattle.cov_proto.specs.Spelled.{test_row}
use Rattle.cov_proto.proofs.Sizes.{room_for}
use Rattle.cov_proto.proofs.reply_writing.append_test_rows.Goals as goal

pub append_test_row-requires-clause-room : goal.append_test_row-requires-clause-room
append_test_row-requires-clause-room c =
    room_for test_row c.args.rows.now c.loop-row.row-index c.row-item.result c.args.out.now.items c.loop-row.out.items _ _ _ _ c.row-item.is c.loop-row-test.true c.loop-row.invariant.items
    (omega arith) (omega arith) c.requires.room c.loop-row.invariant.room
