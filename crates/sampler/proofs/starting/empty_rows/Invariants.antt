use Rattle.std.proofs.Common.{◌≡◌, length}
use Rattle.sampler.proofs.starting.empty_rows.Given as goal

abbrev pub invariant-loop-index : goal.invariant-loop-index
invariant-loop-index l = length l.rows.items ≡ l.index
