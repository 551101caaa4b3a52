use Rattle.std.proofs.Common.{◌≡◌, ℕ, ◌*◌, ◌&&◌, ltb}
use Rattle.product_bits.specs.Marks.{is_marked, in_run}
use Rattle.product_bits.proofs.runs.mark_runs.Given as goal

abbrev pub invariant-loop-run : goal.invariant-loop-run
invariant-loop-run l = (n : ℕ) → is_marked l.words n ≡ (ltb n l.end && (ltb n (l.run * l.stride) && in_run l.stride l.size l.chosen n))
