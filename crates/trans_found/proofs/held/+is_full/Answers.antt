use Rattle.std.proofs.Common.{◌≡◌, ◌∷◌, arith, ◌∙◌, subst}
use Rattle.trans_found.proofs.FoundLemmas.{popped}
use Rattle.trans_found.proofs.ListingLemmas.{others, split}
use Rattle.trans_seq.proofs.Results.{if_ok}
use Rattle.cov_base.specs.Sets.{written}
use Rattle.trans_found.specs.Held.{begun, begun_by, HasAll}
use Rattle.trans_found.proofs.HeldLemmas.{full-item, full-only}
use Rattle.trans_found.proofs.held.+is_full.Goals as goal

pub is_full_behind-returns-clause-first : goal.is_full_behind-returns-clause-first
is_full_behind-returns-clause-first t c =
    popped c.args.first.now.items c.args.number c.is_full.new.first.items c.pop.new.self.items c.is_full.new.first.len c.pop.ensures.rest c.is_full.new.first.ok.0 (c.in_ok-full.ensures.first ∙ c.in_ok-push.ensures.items)

pub is_full_behind-returns-clause-full : goal.is_full_behind-returns-clause-full
is_full_behind-returns-clause-full t c = λ yes lists all.
    subst (λ f. HasAll lists (begun f c.args.items.now)) c.in_ok-push.ensures.items (c.in_ok-full.ensures.full yes lists all)

pub is_full-returns-in-Some-clause-full : goal.is_full-returns-in-Some-clause-full
is_full-returns-in-Some-clause-full t c =
    let items = c.args.items.now in
    let item = c.item-item.result in
    let parts : items ≡ item ∷ others items = split items item (omega arith) c.item-item.is in
    if_ok _ _ (λ full h yes lists all. full-only lists c.args.first.now.items item c.in-Some.number (others items) items parts c.in-Some.ensures (h yes lists all)) c.is_full_behind.result c.is_full_behind.ensures.full

pub is_full-returns-in-None-clause-full : goal.is_full-returns-in-None-clause-full
is_full-returns-in-None-clause-full t c =
    let items = c.args.items.now in
    let item = c.item-item.result in
    let parts : items ≡ item ∷ others items = split items item (omega arith) c.item-item.is in
    if_ok _ _ (λ full h yes lists all. full-item lists c.args.first.now.items item (others items) items parts
    (subst (λ f. HasAll lists (begun_by f (written item.set) (others items))) c.as_slice.ensures.value (h yes lists all))) c.has_all.result c.has_all.ensures
