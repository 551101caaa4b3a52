use Rattle.std.proofs.Common.{arith}
use Rattle.std.proofs.lemmas.Bool.Decides.{nat_tests}
use Rattle.vcd_dump.proofs.Unpacked.{is_first, is_shorter, is_empty}
use Rattle.vcd_dump.proofs.packing.next_item.Goals as goal

pub returns-then-is_empty-clause-item : goal.returns-then-is_empty-clause-item
returns-then-is_empty-clause-item c = is_empty c.args.bytes.now (grind (arith, nat_tests, c.if-is_empty.true, c.is_empty.ensures))

pub returns-clause-item : goal.returns-clause-item
returns-clause-item c = is_first c.args.bytes.now c.item_in.result.1.now c.item_in.result.0 (grind (arith, nat_tests, c.if-is_empty.false, c.is_empty.ensures)) c.item_in.ensures.item c.item_in.ensures.rest

pub returns-clause-shorter : goal.returns-clause-shorter
returns-clause-shorter c = is_shorter c.args.bytes.now c.item_in.result.1.now (grind (arith, nat_tests, c.if-is_empty.false, c.is_empty.ensures)) c.item_in.ensures.rest
