use Rattle.std.proofs.Common.{◌≡◌, ℕ, length}
use Rattle.std.specs.Prelude.{map}
use Rattle.std.specs.List.{sum_by}
use Rattle.std.specs.Arc.{arc_value}
use Rattle.rank_report.specs.Steps.{added_by, StandAbove}
use Rattle.rank_report.proofs.RankLemmas.{Reached}
use Rattle.rank_report.proofs.ranking.rank_sorted.Given as goal

abbrev pub invariant-rows : goal.invariant-rows
invariant-rows g l = record {
  reached : Reached (map arc_value l.tests) l.wanted l.ranked.items l.missing.items l.taken.items;
  marked : length l.taken.items ≡ length l.tests;
  paired : length l.missing.items ≡ length l.wanted;
  kept : length l.gains.items ≡ length l.tests;
  above : StandAbove (map (λ hits. added_by hits l.missing.items) l.hits.items) l.taken.items l.gains.items;
}

abbrev pub decreases-rows : goal.decreases-rows
decreases-rows g l = sum_by (λ (pair : ℕ × ℕ). pair.1) l.missing.items
