use Rattle.std.proofs.Common.{◌≡◌, ◌<◌, ◌≤◌, ℕ, length, get_or}
use Rattle.sampler_threads.specs.Merging.{Joins}
use Rattle.sampler_threads.proofs.parallel.join_all.Given as goal

abbrev pub invariant-loop-number : goal.invariant-loop-number
invariant-loop-number l = record {
  same : length l.total.items ≡ length l.initial.total.items;
  done : (k : ℕ) → k < l.number → Joins (get_or l.initial.total.items k 0) (get_or l.counts k 0) (get_or l.total.items k 0);
  left : (k : ℕ) → l.number ≤ k → get_or l.total.items k 0 ≡ get_or l.initial.total.items k 0;
}
