use Rattle.std.proofs.Common.{◌∙◌, sym, map}
use Rattle.std.specs.Arc.{arc_value}
use Rattle.std.specs.declared.sync.Arc.{Arc}
use Rattle.std.specs.declared.alloc.Global.{Global}
use Rattle.std.proofs.lemmas.Simd.{map-map}
use Rattle.tally.specs.Rows.{rows_from}
use Rattle.record_codec.specs.declared.record.Record.{Record}
use Rattle.cov_history.specs.Tallies.{tally}
use Rattle.store_core.proofs.Listed.{all_listed}
use Rattle.store_core.proofs.counting.tallies_of.Goals as goal

pub returns : goal.returns
returns c =
    let d = c.args.design.now in
    let records = c.args.records.now in
    all_listed (λ (x : Arc Record Global). rows_from 0 (tally d (arc_value x))) records c.loop-content.content-index (map arc_value c.loop-content.tallies.items) c.loop-content-test.false c.loop-content.invariant
    ∙ sym (map-map (λ (r : Record). rows_from 0 (tally d r)) (λ (x : Arc Record Global). arc_value x) records)
