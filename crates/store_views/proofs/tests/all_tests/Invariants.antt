use Rattle.std.proofs.Common.{◌≡◌, ℕ, ◌+◌, ◌-◌, length, map, take, Option, Some, None}
use Rattle.std.specs.Prelude.{MatchOption}
use Rattle.cov_history.specs.History.{tests_of}
use Rattle.cov_history.specs.Answers.{test_row}
use Rattle.merge_store.specs.Stores.{entries_of}
use Rattle.store_views.proofs.tests.all_tests.Given as goal

abbrev pub invariant-loop-next : goal.invariant-loop-next
invariant-loop-next l =
    let all = tests_of (entries_of l.store) in
    MatchOption l.next (l.tests.items ≡ map test_row all) (λ place. l.tests.items ≡ map test_row (take place all))

-- how many tests aren't read yet
abbrev pub left_from : ℕ → Option ℕ → ℕ
left_from all None = 0
left_from all (Some place) = all - place + 1

abbrev pub decreases-loop-next : goal.decreases-loop-next
decreases-loop-next l = left_from (length (tests_of (entries_of l.store))) l.next
