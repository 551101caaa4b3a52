use Rattle.std.specs.Prelude.{◌&&◌, not}
use Rattle.std.proofs.Common.{◌≡◌, ◌∙◌, ℤ}
use Rattle.cov_base.specs.Sets.{is_in, written, set_of, without}
use Rattle.cov_base.proofs.Runs.{set_of_numbers}
use Rattle.cov_base.proofs.Members.{is_in-without}
use Rattle.cov_base.proofs.Laws.{if_set, minus_is_set, minus_is}
use Rattle.cov_base.proofs.Stores.{normal_in}
use Rattle.cov_base.proofs.sets.ValueSet.minus.Goals as goal

pub kept_set-requires : goal.kept_set-requires
kept_set-requires c =
    rw (c.in_ok-intervals.ensures, c.ranges-2.ensures, c.ranges-3.ensures)
    (minus_is_set _ _ (normal_in c.self.inside.kept c.self.invariant) (normal_in c.other.inside.kept c.other.invariant))

is : (c : goal.After-kept_set) → c.in_ok-intervals.intervals.items ≡ set_of (without (written c.args.self.now) (written c.args.other.now))
is c =
    rw (c.in_ok-intervals.ensures, c.ranges-2.ensures, c.ranges-3.ensures, ← c.self.view_is, ← c.other.view_is)
    (minus_is _ _ (normal_in c.self.inside.kept c.self.invariant) (normal_in c.other.inside.kept c.other.invariant))

pub returns-clause-set : goal.returns-clause-set
returns-clause-set c = if_set c.kept_set.result _ (λ set. set ≡ set_of (without (written c.args.self.now) (written c.args.other.now))) c.kept_set.ensures (is c)

pub returns-clause-numbers : goal.returns-clause-numbers
returns-clause-numbers c = if_set c.kept_set.result _ (λ set. (v : ℤ) → is_in (written set) v ≡ (is_in (written c.args.self.now) v && not (is_in (written c.args.other.now) v))) c.kept_set.ensures (λ v. rw (is c) (set_of_numbers (without (written c.args.self.now) (written c.args.other.now)) v ∙ is_in-without (written c.args.self.now) (written c.args.other.now) v))
