use Rattle.std.proofs.Common.{◌≡◌, [], ◌∷◌, subst, sym, ◌∙◌, arith}
use Rattle.std.proofs.lemmas.List.Elements.{All-head}
use Rattle.trans_found.specs.Lists.{by_lengths, all_of}
use Rattle.trans_found.specs.Found.{FailsAfter, HasList, AllHaveList}
use Rattle.trans_found.proofs.ListingLemmas.{others, split, fails_behind_too}
use Rattle.trans_lists.proofs.RunLemmas.{run-step}
use Rattle.trans_lists.proofs.listing.+run_of.Goals as goal

pub returns-else-not-same_values-clause-same : goal.returns-else-not-same_values-clause-same
returns-else-not-same_values-clause-same t c =
    let items = c.args.items.now in
    let item = c.item-item.result in
    let parts : items ≡ item ∷ others items = split items item (omega arith) c.item-item.is in
    let has : HasList item = All-head HasList item (others items) (subst AllHaveList parts c.requires.lists) in
    run-step c.args.set.now items item c.args.low c.args.high c.ends-least.result.0 c.ends-least.result.1 parts (c.same_values.ensures.0 c.if-not-same_values.false) c.ends-least.ensures.all c.requires.order has
    ∙ c.run_of.ensures.same

pub returns-else-not-same_values-clause-behind : goal.returns-else-not-same_values-clause-behind
returns-else-not-same_values-clause-behind t c = λ f h.
    let items = c.args.items.now in
    let item = c.item-item.result in
    let parts : items ≡ item ∷ others items = split items item (omega arith) c.item-item.is in
    let has : HasList item = All-head HasList item (others items) (subst AllHaveList parts c.requires.lists) in
    subst (λ l. FailsAfter [] (all_of (by_lengths l)) f) (sym parts) (fails_behind_too item (others items) f has (c.run_of.ensures.behind f h))
