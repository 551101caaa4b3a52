use Rattle.std.proofs.Common.{◌≡◌, ◌∷◌, sym, subst, arith}
use Rattle.trans_found.specs.Held.{words, HasAll}
use Rattle.trans_found.proofs.ListingLemmas.{others, split}
use Rattle.trans_seq.proofs.Results.{if_ok}
use Rattle.trans_found.proofs.HeldLemmas.{words-parts}
use Rattle.trans_found.proofs.held.+are_parts.Goals as goal

pub returns-else-not-branch : goal.returns-else-not-branch
returns-else-not-branch t c =
    let items = c.args.items.now in
    let sets = c.args.others.now in
    let item = c.item-item.result in
    let other = c.other-item.result in
    let ours : items ≡ item ∷ others items = split items item (omega arith) c.item-item.is in
    let theirs : sets ≡ other ∷ others sets = split sets other (omega arith) c.other-item.is in
    if_ok _ _ (λ parts h yes. subst (λ l. HasAll (words l) (words items)) (sym theirs) (subst (λ l. HasAll (words (other ∷ others sets)) (words l)) (sym ours)
    (words-parts item other (others items) (others sets) (c.in_ok-is_part-in-len1-up-others.ensures c.if-not-branch.false) (h yes)))) c.are_parts.result c.are_parts.ensures
