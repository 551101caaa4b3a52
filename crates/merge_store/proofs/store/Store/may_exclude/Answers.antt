use Rattle.std.proofs.Common.{◌≡◌, ◌∙◌, ◌+◌, ◌<◌, ap, sym, subst, ℕ, length, arith}
use Rattle.std.proofs.lemmas.List.{length-map}
use Rattle.ucis_model.specs.declared.answers.Answer.TheVariants as answer
use Rattle.ucis_model.specs.declared.answers.Which.TheVariants.{History}
use Rattle.store_parts.specs.Words.{entry_of}
use Rattle.merge_store.specs.Stores.{entries_of}
use Rattle.store_parts.proofs.Excluding.{exclude_already, exclude_full, may_exclude}
use Rattle.merge_store.proofs.store.Store.may_exclude.Goals as goal

pub returns-then-is_out-clause-refused : goal.returns-then-is_out-clause-refused
returns-then-is_out-clause-refused c caller = exclude_already c.args.self.now.keeps c.args.path.now c.in-Some.node (sym c.in-Some.ensures) caller (sym c.if-is_out.ensures)

pub returns-then-want-gt-MOST_HISTORY-clause-refused : goal.returns-then-want-gt-MOST_HISTORY-clause-refused
returns-then-want-gt-MOST_HISTORY-clause-refused c caller =
    let s = c.args.self.now in
    let len : length c.as_slice.result.now ≡ length (entries_of s) = ap length c.as_slice.ensures.value ∙ sym (length-map s.entries.items entry_of) in
    exclude_full s.keeps caller c.args.path.now c.in-Some.node (sym c.in-Some.ensures) (sym c.if-is_out.ensures) (subst (λ (m : ℕ). 1048576 < (m + s.outs) + 2) len c.if-want-gt-MOST_HISTORY.true)
    ∙ sym (ap (λ (m : ℕ). answer.Full History (m + s.outs) ((m + s.outs) + 2)) len)

pub returns-clause-may : goal.returns-clause-may
returns-clause-may c =
    let s = c.args.self.now in
    let len : length c.as_slice.result.now ≡ length (entries_of s) = ap length c.as_slice.ensures.value ∙ sym (length-map s.entries.items entry_of) in
    may_exclude s.keeps c.args.path.now c.in-Some.node (sym c.in-Some.ensures) (sym c.if-is_out.ensures) (omega (arith, len, c.if-want-gt-MOST_HISTORY.false))
