use Rattle.std.proofs.Common.{◌≡◌, ℕ, Bool, ◌||◌, length, map, take}
use Rattle.std.specs.Prelude.{option_map}
use Rattle.std.specs.Arc.{arc_value}
use Rattle.cov_history.specs.Nodes.{bin_nodes}
use Rattle.store_sums.specs.Runs.{has_row, HasMarks}
use Rattle.store_sums.proofs.marks.mark_rows.Given as goal

abbrev pub invariant-loop-bin : goal.invariant-loop-bin
invariant-loop-bin l = record {
  same : length l.runs.parents ≡ length (bin_nodes l.branches);
  marks : (done : ℕ → Bool) → HasMarks l.branches l.counts (map (λ p. option_map arc_value p) l.out) done l.fn.runs → HasMarks l.branches l.counts (map (λ p. option_map arc_value p) l.out) (λ p. done p || has_row (take l.bin-index l.rows) p) l.runs;
}
