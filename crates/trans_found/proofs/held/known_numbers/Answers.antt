use Rattle.trans_seq.proofs.Results.{if_ok}
use Rattle.trans_found.proofs.HeldLemmas.{has-both}
use Rattle.trans_found.proofs.held.known_numbers.Goals as goal

pub returns : goal.returns
returns c =
    if_ok _ _ (λ both each lists all.
    has-both lists c.args.first.now c.in_ok-numbers.numbers c.in_ok-others.others both c.args.rest.now each (c.in_ok-numbers.ensures lists all) (c.in_ok-others.ensures lists all)) c.joined_set.result c.joined_set.ensures
