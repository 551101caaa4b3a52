use Rattle.std.proofs.Common.{arith}
use Rattle.record_codec.proofs.Answering.{same}
use Rattle.record_codec.proofs.LimitTests.{start_is}
use Rattle.record_codec.proofs.limits.is_start.Goals as goal

pub returns : goal.returns
returns c =
    let signals = rw c.as_slice.ensures at c.is_signal_table.ensures.0 c.if-not-is_signal_table.false in
    let instances = rw c.as_slice-2.ensures at c.is_instance_table.ensures in
    same c.is_instance_table.result instances (start_is c.args.start.now (omega arith) (omega arith) (c.is_test.ensures.0 c.if-not-is_test.false) signals) (λ h. (h.instance_count, h.instances))
