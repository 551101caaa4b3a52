use Rattle.std.proofs.Common.{◌∙◌, ap, sym, length, arith}
use Rattle.std.specs.Prelude.{filter}
use Rattle.design_data.specs.declared.design.Design.{Design}
use Rattle.ucis_model.specs.declared.answers.Answer.TheVariants as answer
use Rattle.cov_history.specs.History.{out_of, is_found}
use Rattle.merge_store.specs.Stores.{opening_of, entries_of}
use Rattle.store_parts.proofs.Revising.{calm_is, revise_full}
use Rattle.merge_store.proofs.store.Store.may_revise.Goals as goal

pub amounts_revised-after-requires-clause-calm : goal.amounts_revised-after-requires-clause-calm
amounts_revised-after-requires-clause-calm c =
    let s = c.args.self.now in
    calm_is (opening_of s) (entries_of s) 0 c.args.rebinned.now c.changed.result c.changed.ensures (omega (arith, c.if-since-changed.false, c.since-since.ensures))

pub amounts_revised-after-requires-clause-outs : goal.amounts_revised-after-requires-clause-outs
amounts_revised-after-requires-clause-outs c =
    c.in-Ok.ensures.is.count

pub returns-in-Some-clause-refused : goal.returns-in-Some-clause-refused
returns-in-Some-clause-refused c caller =
    let s = c.args.self.now in
    let calm = calm_is (opening_of s) (entries_of s) 0 c.args.rebinned.now c.changed.result c.changed.ensures (omega (arith, c.if-since-changed.false, c.since-since.ensures)) in
    revise_full (opening_of s) (entries_of s) caller c.args.rebinned.now calm c.amounts.result c.amounts_revised-after.result c.in-Some.which c.amounts.ensures (c.amounts_revised-after.ensures caller) (sym c.in-Some.ensures)
    ∙ (λ i. answer.Full c.in-Some.which (sym c.amount-have.ensures i) (sym c.amount-want.ensures i))

pub returns-clause-may : goal.returns-clause-may
returns-clause-may c =
    let s = c.args.self.now in
    record {
      calm = calm_is (opening_of s) (entries_of s) 0 c.args.rebinned.now c.changed.result c.changed.ensures (omega (arith, c.if-since-changed.false, c.since-since.ensures));
      amounts = c.amounts_revised-after.ensures;
      room = sym c.in_default-passed.ensures;
    }
