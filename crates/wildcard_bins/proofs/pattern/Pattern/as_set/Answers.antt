use Rattle.wildcard_bins.proofs.Places.{as_set_is}
use Rattle.wildcard_bins.proofs.Whole.{numbers_agree}
use Rattle.wildcard_bins.proofs.pattern.Pattern.as_set.Goals as goal

pub returns-clause-set : goal.returns-clause-set
returns-clause-set c = as_set_is c.args.self.now c.in_ok-ranges.ranges.items c.as_slice.result.now c.in_ok-set.set c.in_ok-ranges.ensures c.as_slice.ensures.value c.in_ok-set.ensures.set

pub returns-clause-numbers : goal.returns-clause-numbers
returns-clause-numbers c = numbers_agree c.args.self.now c.in_ok-set.set (as_set_is c.args.self.now c.in_ok-ranges.ranges.items c.as_slice.result.now c.in_ok-set.set c.in_ok-ranges.ensures c.as_slice.ensures.value c.in_ok-set.ensures.set)
