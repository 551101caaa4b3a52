use Rattle.std.proofs.Common.{◌≡◌, ◌≤◌, map}
use Rattle.std.specs.List.{range_with_len}
use Rattle.history_answers.specs.Kept.{total}
use Rattle.history_answers.proofs.queries.totals.Given as goal

abbrev pub invariant-loop-bin : goal.invariant-loop-bin
invariant-loop-bin l = (l.totals.items ≡ map (total l.tests) (range_with_len 0 l.bin)) × (l.bin ≤ l.bins)
