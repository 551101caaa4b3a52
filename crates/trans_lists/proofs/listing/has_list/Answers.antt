use Rattle.std.proofs.Common.{◌<◌, ◌≤◌, inr, arith}
use Rattle.std.proofs.lemmas.Bool.{ltb-true, ltb-false}
use Rattle.trans_found.proofs.ListingLemmas.{has_some, has_none}
use Rattle.trans_lists.proofs.listing.has_list.Goals as goal

pub returns-else-low-eq0-clause-some : goal.returns-else-low-eq0-clause-some
returns-else-low-eq0-clause-some c = λ h. has_some c.args.item.now c.ends-low.result.0 c.ends-low.result.1 c.ends-low.ensures.all c.if-low-high.true (inr (let some : 0 < c.count.result = ltb-true 0 c.count.result h in omega (arith, some, c.count.ensures.value)))

pub returns-else-low-eq0-clause-none : goal.returns-else-low-eq0-clause-none
returns-else-low-eq0-clause-none c = λ h. has_none c.args.item.now c.ends-low.result.0 c.ends-low.result.1 c.ends-low.ensures.all (inr (omega (arith, c.if-low-eq0.false), (let none : c.count.result ≤ 0 = ltb-false 0 c.count.result h in omega (arith, none, c.count.ensures.value))))
