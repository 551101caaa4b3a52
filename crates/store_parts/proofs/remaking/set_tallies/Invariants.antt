use Rattle.std.proofs.Common.{◌≡◌, length, map, List, ℕ}
use Rattle.std.specs.Arc.{arc_value}
use Rattle.tally.specs.declared.tally.Tally.{Tally}
use Rattle.cov_history.specs.History.{Test}
use Rattle.store_parts.specs.Words.{test_of}
use Rattle.store_parts.proofs.Setting.{IsSetting}
use Rattle.store_parts.proofs.remaking.set_tallies.Given as goal

abbrev pub invariant-loop-tally : goal.invariant-loop-tally
invariant-loop-tally l = IsSetting (map {B = Tally} (λ e. arc_value e.1.tally) l.fn.tests.entries) (map {B = Tally} (λ t. arc_value t) l.fn.tallies.items) (map {B = Tally} (λ t. arc_value t) l.left.items) (map {B = Tally} (λ e. arc_value e.1.tally) l.tests.entries)
    × (map {B = List ℕ × Test} (λ e. (e.0.items, test_of e.1)) l.tests.entries ≡ map {B = List ℕ × Test} (λ e. (e.0.items, test_of e.1)) l.fn.tests.entries)

abbrev pub decreases-loop-tally : goal.decreases-loop-tally
decreases-loop-tally l = length l.left.items
