use Rattle.std.proofs.Common.{[]}
use Rattle.trans_found.proofs.ListingLemmas.{if_err}
use Rattle.trans_found.proofs.HeldLemmas.{fails-expanded}
use Rattle.trans_lists.proofs.listing.alone.Goals as goal

pub returns-clause-err : goal.returns-clause-err
returns-clause-err c = if_err _ _ (λ e h. fails-expanded [] c.args.seq.now.items e c.requires.bounded c.requires.short h) c.expand.result c.expand.ensures.refuses
