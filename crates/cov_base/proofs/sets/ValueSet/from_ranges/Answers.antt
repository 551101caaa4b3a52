use Rattle.std.proofs.Common.{◌≡◌, ℤ}
use Rattle.cov_base.specs.Sets.{is_in, written, set_of}
use Rattle.cov_base.proofs.Runs.{set_of_numbers}
use Rattle.cov_base.proofs.Laws.{if_set, joins_is_set, from_ranges_is}
use Rattle.cov_base.proofs.sets.ValueSet.from_ranges.Goals as goal

pub kept_set-requires : goal.kept_set-requires
kept_set-requires c =
    rw (c.in_ok-join_all.ensures, c.new-intervals.ensures.items, c.as_slice.ensures.value)
    (joins_is_set _ c.in_ok-sorted.ensures.order c.in_ok-sorted.ensures.ends)

is : (c : goal.After-drop-sorted-2) → c.join_all.new.out.items ≡ set_of (written c.args.ranges.now)
is c =
    rw (c.in_ok-join_all.ensures, c.new-intervals.ensures.items, c.as_slice.ensures.value)
    (from_ranges_is _ _ c.in_ok-sorted.ensures.order c.in_ok-sorted.ensures.same)

pub returns-clause-set : goal.returns-clause-set
returns-clause-set c = if_set c.kept_set.result _ (λ set. set ≡ set_of (written c.args.ranges.now)) c.kept_set.ensures (is c)

pub returns-clause-numbers : goal.returns-clause-numbers
returns-clause-numbers c = if_set c.kept_set.result _ (λ set. (v : ℤ) → is_in (written set) v ≡ is_in (written c.args.ranges.now) v) c.kept_set.ensures (λ v. rw (is c) (set_of_numbers (written c.args.ranges.now) v))
