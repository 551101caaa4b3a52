use Rattle.std.proofs.Common.{◌≡◌, ap, sym, subst, ◌∙◌, List, ℕ, set, ◌+◌}
use Rattle.std.specs.Prelude.{slice_get, Some, IfSome}
use Rattle.design_data.specs.declared.infos.BinInfo.{BinInfo}
use Rattle.point_tables.specs.Tables.{IsEntry}
use Rattle.point_sampler.specs.Met.{IsAnswered}
use Rattle.point_sampler.proofs.Taking.{some_at, off_taken, on_taken}
use Rattle.point_sampler.proofs.counting.count_one.Goals as goal

pub holds_of-requires-clause-guard : goal.holds_of-requires-clause-guard
holds_of-requires-clause-guard c =
    let b = some_at c.args.item.now.bins c.args.place c.requires.place in
    let is : slice_get c.as_slice-bins.result.now c.args.place ≡ Some b.0 = subst (λ (bins : List BinInfo). slice_get bins c.args.place ≡ Some b.0) (sym c.as_slice-bins.ensures) b.1 in
    (b.0.guard, (c.entry_at-entry.ensures b.0 is).guard)

pub returns-then-not-holds_of-clause-taken : goal.returns-then-not-holds_of-clause-taken
returns-then-not-holds_of-clause-taken c =
    let b = some_at c.args.item.now.bins c.args.place c.requires.place in
    let is : slice_get c.as_slice-bins.result.now c.args.place ≡ Some b.0 = subst (λ (bins : List BinInfo). slice_get bins c.args.place ≡ Some b.0) (sym c.as_slice-bins.ensures) b.1 in
    off_taken c.args.item.now c.args.env.now c.args.place c.args.counts.now c.args.row.now.items b.0 b.1
    (sym (c.holds_of.ensures.holds b.0.guard (c.entry_at-entry.ensures b.0 is).guard) ∙ c.if-not-holds_of.true)

pub returns-clause-taken : goal.returns-clause-taken
returns-clause-taken c =
    let b = some_at c.args.item.now.bins c.args.place c.requires.place in
    let is : slice_get c.as_slice-bins.result.now c.args.place ≡ Some b.0 = subst (λ (bins : List BinInfo). slice_get bins c.args.place ≡ Some b.0) (sym c.as_slice-bins.ensures) b.1 in
    let entry = c.entry_at-entry.ensures b.0 is in
    on_taken c.args.item.now c.args.env.now c.args.place c.args.counts.now _ c.args.row.now.items c.add_number.new.row.items b.0 c.entry_at-entry.result b.1
    (sym (c.holds_of.ensures.holds b.0.guard entry.guard) ∙ c.if-not-holds_of.false)
    (subst (λ (bins : List BinInfo). IsEntry bins c.args.place b.0 c.entry_at-entry.result) c.as_slice-bins.ensures entry)
    (ap (λ (u : ℕ). set c.args.counts.now (c.args.item.now.first_bin + c.args.place) u) c.saturating_add.ensures) c.in_ok-add_number.ensures

pub holds_of-requires-clause-asked : goal.holds_of-requires-clause-asked
holds_of-requires-clause-asked c = subst (λ (bins : List BinInfo). IfSome c.args.asked.now (IsAnswered bins c.args.env.now)) (sym c.as_slice-bins.ensures) c.requires.asked

pub returns-then-not-holds_of-clause-asked : goal.returns-then-not-holds_of-clause-asked
returns-then-not-holds_of-clause-asked c = subst (λ (bins : List BinInfo). IfSome c.holds_of.new.asked (IsAnswered bins c.args.env.now)) c.as_slice-bins.ensures c.holds_of.ensures.asked

pub returns-clause-asked : goal.returns-clause-asked
returns-clause-asked c = subst (λ (bins : List BinInfo). IfSome c.holds_of.new.asked (IsAnswered bins c.args.env.now)) c.as_slice-bins.ensures c.holds_of.ensures.asked
