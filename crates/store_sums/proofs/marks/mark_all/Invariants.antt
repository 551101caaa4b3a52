use Rattle.std.proofs.Common.{map, nat_lt}
use Rattle.std.specs.Prelude.{option_map}
use Rattle.std.specs.Arc.{arc_value}
use Rattle.store_sums.specs.Runs.{HasMarks}
use Rattle.store_sums.proofs.marks.mark_all.Given as goal

abbrev pub invariant-loop-place : goal.invariant-loop-place
invariant-loop-place l = HasMarks l.branches l.counts (map (λ p. option_map arc_value p) l.out) (λ bin. nat_lt bin l.place) l.runs
