use Rattle.std.proofs.Common.{ℕ, rules, IsPermutation}
use Rattle.std.specs.Prelude.{map}
use Rattle.std.specs.Arc.{arc_value}
use Rattle.std.proofs.lemmas.Result.{IfOk-weaker}
use Rattle.std.proofs.lemmas.List.Sorted.{IsNonDecreasingBy-from_sort_by_key}
use Rattle.rank_report.specs.Ranking.{IsRanking}
use Rattle.rank_report.proofs.AnyOrder.{same_ranking}
use Rattle.rank_report.proofs.ranking.rank.Goals as goal

pub rank_sorted-requires-clause-ascend : goal.rank_sorted-requires-clause-ascend
rank_sorted-requires-clause-ascend g c κs within = rw c.as_slice.ensures.value (IsNonDecreasingBy-from_sort_by_key (λ (pair : ℕ × ℕ). pair.0) c.sort_unstable_by_key.new.self.items c.sort_unstable_by_key.ensures.sorted (λ a r q k. search rules))

pub returns : goal.returns
returns g c =
    let moved : IsPermutation c.args.wanted.now c.as_slice.result.now = rw c.as_slice.ensures.value (rw c.in_ok-sorted.ensures.items at c.sort_unstable_by_key.ensures.permutation) in
    let tests = map arc_value c.args.tests.now in
    IfOk-weaker c.rank_sorted.result (IsRanking tests c.as_slice.result.now) (IsRanking tests c.args.wanted.now) (λ ranked r. same_ranking tests c.args.wanted.now c.as_slice.result.now moved ranked r) c.rank_sorted.ensures
