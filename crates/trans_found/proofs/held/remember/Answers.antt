use Rattle.std.proofs.Common.{List, subst, sym, ◌∙◌, append-nil}
use Rattle.cov_base.specs.Sets.{written}
use Rattle.trans_found.specs.declared.held.Held.{Held}
use Rattle.trans_seq.specs.declared.seq.Item.{Item}
use Rattle.trans_found.specs.Held.{begun_by, HasAll}
use Rattle.trans_found.proofs.HeldLemmas.{held-new, has-both}
use Rattle.trans_found.proofs.held.remember.Goals as goal

pub returns : goal.returns
returns c = λ lists all numbers others mark held is.
    let first = c.args.first.now in
    let rest = c.args.rest.now in
    let both = c.in_ok-joined_set.field-0 in
    let new : Held = record { first = c.in_ok-list_of.field-0; numbers = both; rest = c.of.result } in
    let has : HasAll lists (begun_by first (written both) rest) = has-both lists first c.args.numbers.now c.args.others.now both rest c.in_ok-joined_set.ensures numbers others in
    let so : HasAll lists (begun_by new.first (written both) new.rest) =
    subst (λ f. HasAll lists (begun_by f (written both) c.of.result)) (sym (c.in_ok-list_of.ensures ∙ append-nil first))
    (subst (λ (r : List Item). HasAll lists (begun_by first (written both) r)) (sym (c.of.ensures ∙ c.in_ok-copied_items.ensures)) has) in
    held-new lists _ new held _ _ (c.in_ok-insert.ensures.updates.0 mark) is so (λ e. all mark held e)
