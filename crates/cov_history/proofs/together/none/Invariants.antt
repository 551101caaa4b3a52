use Rattle.std.proofs.Common.{◌≡◌, ◌≤◌, [], map}
use Rattle.std.specs.List.{range_with_len}
use Rattle.cov_history.specs.History.{hits_of}
use Rattle.cov_history.proofs.together.none.Given as goal

abbrev pub invariant-loop : goal.invariant-loop
invariant-loop l = (l.counts.items ≡ map (hits_of l.design []) (range_with_len 0 l.counter)) × (l.counter ≤ l.end) × (l.end ≡ l.design.bin_count)
