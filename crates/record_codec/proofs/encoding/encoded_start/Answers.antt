use Rattle.std.proofs.Common.{[]}
use Rattle.record_codec.specs.Starts.{with_events}
use Rattle.record_codec.proofs.Appended.{both_parts}
use Rattle.record_codec.proofs.encoding.encoded_start.Goals as goal

pub returns : goal.returns
returns c =
    let tables = rw (c.as_slice-signals.ensures, c.as_slice-instances.ensures) at c.in_ok-append_tables.ensures in
    both_parts (with_events c.args.start.now []) c.new-out.result.items c.append_front.new.out.items c.append_tables.new.out.items c.new-out.ensures.items c.in_ok-append_front.ensures tables
