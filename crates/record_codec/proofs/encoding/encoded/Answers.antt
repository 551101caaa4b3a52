use Rattle.record_codec.proofs.Appended.{both_parts}
use Rattle.record_codec.proofs.encoding.encoded.Goals as goal

pub returns : goal.returns
returns c =
    let tables = rw (c.as_slice-signals.ensures, c.as_slice-instances.ensures, c.as_slice.ensures) at c.in_ok-append_tables.ensures in
    both_parts (c.args.fields.now) c.new-out.result.items c.append_front.new.out.items c.append_tables.new.out.items c.new-out.ensures.items c.in_ok-append_front.ensures tables
