use Rattle.std.proofs.Common.{◌≡◌, ◌∙◌, ◌≤◌, ◌<◌, ◌^◌, List, ap, sym, subst, length, map, arith}
use Rattle.std.specs.Prelude.{sum_by}
use Rattle.std.specs.Arc.{arc_value}
use Rattle.std.specs.declared.sync.Arc.{Arc}
use Rattle.std.specs.declared.alloc.Global.{Global}
use Rattle.std.proofs.lemmas.List.{length-map}
use Rattle.tally.specs.declared.tally.Tally.{Tally}
use Rattle.record_codec.specs.declared.record.Record.{Record}
use Rattle.design_data.specs.declared.design.Design.{Design}
use Rattle.store_core.specs.Rebins.{tallies_of, AreSums}
use Rattle.store_core.proofs.Summed.{sums_are, entries_are, entries_fit}
use Rattle.store_core.proofs.counting.count_records.Goals as goal

pub entries-entries-requires : goal.entries-entries-requires
entries-entries-requires g c =
    let rs = map (λ (x : Arc Record Global). arc_value x) c.args.records.now in
    let few : length rs ≤ 4096 = omega (arith, c.requires, length-map c.args.records.now (λ (x : Arc Record Global). arc_value x)) in
    let same : c.deref.result.now ≡ c.args.design.now = c.deref.ensures ∙ c.design.ensures in
    let tallies = c.in_ok-tallies.ensures ∙ ap (λ (d : Design). tallies_of d rs) same in
    subst (λ (ts : List (Arc Tally Global)). sum_by (λ (x : Arc Tally Global). length (arc_value x)) ts < 2 ^ 64) (sym c.as_slice-2.ensures.value) (entries_fit c.args.design.now rs c.in_ok-tallies.tallies.items tallies few)

pub returns-clause-counts : goal.returns-clause-counts
returns-clause-counts g c =
    let rs = map (λ (x : Arc Record Global). arc_value x) c.args.records.now in
    let same : c.deref-2.result.now ≡ c.args.design.now = c.deref-2.ensures ∙ c.design-2.ensures in
    sums_are c.args.design.now rs c.in_ok-counts.counts.items (subst (λ (d : Design). AreSums d rs c.in_ok-counts.counts.items) same c.in_ok-counts.ensures)

pub returns-clause-entries : goal.returns-clause-entries
returns-clause-entries g c =
    let rs = map (λ (x : Arc Record Global). arc_value x) c.args.records.now in
    let same : c.deref.result.now ≡ c.args.design.now = c.deref.ensures ∙ c.design.ensures in
    c.entries-entries.ensures
    ∙ ap (sum_by (λ (x : Arc Tally Global). length (arc_value x))) c.as_slice-2.ensures.value
    ∙ entries_are c.args.design.now rs c.in_ok-tallies.tallies.items (c.in_ok-tallies.ensures ∙ ap (λ (d : Design). tallies_of d rs) same)
