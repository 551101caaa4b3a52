use Rattle.std.proofs.Common.{◌≡◌, ◌∙◌, ap, sym, subst, true, None}
use Rattle.design_data.specs.declared.design.Design.{Design}
use Rattle.cov_history.specs.Tables.{fits}
use Rattle.cov_history.specs.History.{kept}
use Rattle.merge_store.specs.Stores.{entries_of}
use Rattle.store_parts.proofs.Admitting.{same_since, admit_made}
use Rattle.merge_store.proofs.store.Store.judge.Goals as goal

pub amounts_with-after-requires : goal.amounts_with-after-requires
amounts_with-after-requires c =
    let s = c.args.self.now in
    let r = c.args.prepared.now.of in
    let new : kept (entries_of s) r.id ≡ None = ap (kept (entries_of s)) (sym (c.as_slice.ensures ∙ c.id.ensures)) ∙ sym c.in_default.ensures.test in
    c.requires.under ∙ same_since s.keeps 0 c.args.since r new c.if-since-self.false

pub returns : goal.returns
returns c =
    let s = c.args.self.now in
    let h = entries_of s in
    let r = c.args.prepared.now.of in
    let new : kept h r.id ≡ None = ap (kept h) (sym (c.as_slice.ensures ∙ c.id.ensures)) ∙ sym c.in_default.ensures.test in
    let same = same_since s.keeps 0 c.args.since r new c.if-since-self.false in
    let room = sym c.in_default-passed.ensures in (
      record {
        is_new = new;
        same = c.requires.under ∙ same;
        fit = subst (λ (d : Design). fits d r ≡ true) same c.requires.suits.1;
        amounts = c.amounts_with-after.ensures;
        room = room;
      },
      λ caller. admit_made s.keeps caller c.args.since r new c.if-since-self.false c.amounts_with-after.result (c.amounts_with-after.ensures caller) room,
    )
