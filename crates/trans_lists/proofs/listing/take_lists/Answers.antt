use Rattle.std.proofs.Common.{◌≡◌, [], sym, subst}
use Rattle.trans_found.specs.Lists.{listed}
use Rattle.trans_found.specs.Found.{Takes, SomeNoList}
use Rattle.trans_found.proofs.FoundLemmas.{takes_none}
use Rattle.trans_found.proofs.ListingLemmas.{none_listed}
use Rattle.trans_found.proofs.HeldLemmas.{held-more, on-ok}
use Rattle.trans_lists.proofs.listing.take_lists.Goals as goal

pub returns-then-is_empty-clause-ok : goal.returns-then-is_empty-clause-ok
returns-then-is_empty-clause-ok c =
    let items = c.args.seq.now.items in
    let none : listed items ≡ [] = none_listed items (subst SomeNoList c.as_slice-items.ensures (c.all_have_list-is_empty.ensures.some c.if-is_empty.true)) in
    subst (λ ws. Takes c.args.found.now c.args.found.now ws) (sym none) (takes_none c.args.found.now c.requires.holds)

pub returns-else-has_few_choices-clause-held : goal.returns-else-has_few_choices-clause-held
returns-else-has_few_choices-clause-held c =
    on-ok _ _ (λ took. held-more c.args.known.now c.args.found.now c.take_expanded.new.found (listed c.args.seq.now.items) took c.requires.held) c.take_expanded.result c.take_expanded.ensures.ok
