use Rattle.std.proofs.Common.{get_or}
use Rattle.std.proofs.lemmas.List.{get_or_default}
use Rattle.value_index.specs.declared.sets.Span.{Span}
use Rattle.value_index.proofs.Added.{spans_more}
use Rattle.value_index.proofs.build.add_spans.Goals as goal

pub loop-span-preserved : goal.loop-span-preserved
loop-span-preserved c =
    let zero : Span = record { low = 0; high = 0 } in
    let i = c.loop-span.span-index in
    let span : Span = get_or c.args.spans.now i zero in
    spans_more c.args.cuts.now c.args.spans.now i c.args.bin span c.args.rows.now c.loop-span.rows c.add_span.new.rows c.loop-span-test.true (get_or_default c.args.spans.now i zero span c.loop-span-test.true) c.requires.apart c.loop-span.invariant c.in_ok-add_span.ensures
