use Rattle.std.proofs.Common.{◌∙◌}
use Rattle.std.proofs.lemmas.List.Sorted.{All-permutation}
use Rattle.cov_base.specs.Intervals.{IsRange}
use Rattle.cov_base.proofs.Sorts.{sorted_in_order, all_end, covers-permutation}
use Rattle.cov_base.proofs.sets.order.ordered.Goals as goal

pub returns-clause-order : goal.returns-clause-order
returns-clause-order c = sorted_in_order _ c.in_ok-sort.ensures.sorted (All-permutation IsRange _ _ c.in_ok-sort.ensures.permutation c.in_ok-kept.ensures.ranges)

pub returns-clause-ends : goal.returns-clause-ends
returns-clause-ends c = all_end _ (All-permutation IsRange _ _ c.in_ok-sort.ensures.permutation c.in_ok-kept.ensures.ranges)

pub returns-clause-same : goal.returns-clause-same
returns-clause-same c = λ v. covers-permutation _ _ v c.in_ok-sort.ensures.permutation ∙ c.in_ok-kept.ensures.same v
