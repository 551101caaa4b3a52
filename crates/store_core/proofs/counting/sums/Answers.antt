use Rattle.std.proofs.Common.{◌≡◌, ◌∙◌, ◌<◌, ap, subst, sym, length, map, List, get_or, arith}
use Rattle.std.specs.Arc.{arc_value}
use Rattle.std.specs.declared.sync.Arc.{Arc}
use Rattle.std.specs.declared.alloc.Global.{Global}
use Rattle.std.proofs.lemmas.List.{length-map}
use Rattle.tally.specs.Rows.{rows_from}
use Rattle.tally.specs.declared.tally.Tally.{Tally}
use Rattle.record_codec.specs.declared.record.Record.{Record}
use Rattle.cov_history.specs.Tallies.{tally}
use Rattle.store_core.proofs.Summed.{row_inside, row_room, one_more, shared_at}
use Rattle.store_core.proofs.counting.sums.Goals as goal

pub add-requires-clause-inside : goal.add-requires-clause-inside
add-requires-clause-inside c =
    let d = c.args.design.now in
    let rs = map (λ (x : Arc Record Global). arc_value x) c.args.records.now in
    let ts = map (λ (x : Arc Tally Global). arc_value x) c.args.tallies.now in
    let i = c.loop-place.place in
    let t = c.deref.result.now in
    let many : length c.args.tallies.now ≡ length c.args.records.now = sym (length-map c.args.tallies.now (λ (x : Arc Tally Global). arc_value x)) ∙ ap (λ (xs : List Tally). length xs) c.requires.tallies ∙ length-map rs (λ (r : Record). rows_from 0 (tally d r)) ∙ length-map c.args.records.now (λ (x : Arc Record Global). arc_value x) in
    let below : i < length c.args.tallies.now = omega (arith, many, c.loop-place-test.true) in
    let there : i < length ts = omega (arith, below, length-map c.args.tallies.now (λ (x : Arc Tally Global). arc_value x)) in
    let is : t ≡ get_or ts i t = subst (λ (u : Tally). u ≡ get_or ts i u) (sym c.deref.ensures) (shared_at (λ (x : Arc Tally Global). arc_value x) c.args.tallies.now i c.index-tallies-place.result below c.index-tallies-place.is) in
    row_inside d rs ts i t c.requires.tallies there is c.loop-place.counts.items c.loop-place.invariant

pub add-requires-clause-room : goal.add-requires-clause-room
add-requires-clause-room c =
    let d = c.args.design.now in
    let rs = map (λ (x : Arc Record Global). arc_value x) c.args.records.now in
    let ts = map (λ (x : Arc Tally Global). arc_value x) c.args.tallies.now in
    let i = c.loop-place.place in
    let t = c.deref.result.now in
    let records = length-map c.args.records.now (λ (x : Arc Record Global). arc_value x) in
    let many : length c.args.tallies.now ≡ length c.args.records.now = sym (length-map c.args.tallies.now (λ (x : Arc Tally Global). arc_value x)) ∙ ap (λ (xs : List Tally). length xs) c.requires.tallies ∙ length-map rs (λ (r : Record). rows_from 0 (tally d r)) ∙ records in
    let below : i < length c.args.tallies.now = omega (arith, many, c.loop-place-test.true) in
    let there : i < length ts = omega (arith, below, length-map c.args.tallies.now (λ (x : Arc Tally Global). arc_value x)) in
    let is : t ≡ get_or ts i t = subst (λ (u : Tally). u ≡ get_or ts i u) (sym c.deref.ensures) (shared_at (λ (x : Arc Tally Global). arc_value x) c.args.tallies.now i c.index-tallies-place.result below c.index-tallies-place.is) in
    row_room d rs ts i t c.requires.tallies there is c.loop-place.counts.items c.loop-place.invariant (omega (arith, records, c.requires.few))

pub loop-place-preserved : goal.loop-place-preserved
loop-place-preserved c =
    let d = c.args.design.now in
    let rs = map (λ (x : Arc Record Global). arc_value x) c.args.records.now in
    let ts = map (λ (x : Arc Tally Global). arc_value x) c.args.tallies.now in
    let i = c.loop-place.place in
    let t = c.deref.result.now in
    let many : length c.args.tallies.now ≡ length c.args.records.now = sym (length-map c.args.tallies.now (λ (x : Arc Tally Global). arc_value x)) ∙ ap (λ (xs : List Tally). length xs) c.requires.tallies ∙ length-map rs (λ (r : Record). rows_from 0 (tally d r)) ∙ length-map c.args.records.now (λ (x : Arc Record Global). arc_value x) in
    let below : i < length c.args.tallies.now = omega (arith, many, c.loop-place-test.true) in
    let there : i < length ts = omega (arith, below, length-map c.args.tallies.now (λ (x : Arc Tally Global). arc_value x)) in
    let is : t ≡ get_or ts i t = subst (λ (u : Tally). u ≡ get_or ts i u) (sym c.deref.ensures) (shared_at (λ (x : Arc Tally Global). arc_value x) c.args.tallies.now i c.index-tallies-place.result below c.index-tallies-place.is) in
    one_more d rs ts i t c.requires.tallies there is c.loop-place.counts.items c.loop-place.invariant c.add.new.counts.items c.add.ensures
