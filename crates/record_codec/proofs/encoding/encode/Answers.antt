use Rattle.std.proofs.Common.{length, ap, arith}
use Rattle.record_codec.specs.Spelling.{fields_of}
use Rattle.record_codec.proofs.Appended.{both_parts, reads_back}
use Rattle.record_codec.proofs.encoding.encode.Goals as goal

pub returns-clause-spelled : goal.returns-clause-spelled
returns-clause-spelled c =
    let tables = rw (c.as_slice-signals.ensures, c.as_slice-instances.ensures, c.as_slice.ensures) at c.in_ok-append_tables.ensures in
    both_parts (fields_of c.args.rec.now) c.new-out.result.items c.append_front.new.out.items c.append_tables.new.out.items c.new-out.ensures.items c.in_ok-append_front.ensures tables

pub returns-clause-short : goal.returns-clause-short
returns-clause-short c = omega (arith, ap length (returns-clause-spelled c), c.args.rec.now.within.short)

pub returns-clause-read_back : goal.returns-clause-read_back
returns-clause-read_back c = reads_back c.args.rec.now c.append_tables.new.out.items (returns-clause-spelled c)
