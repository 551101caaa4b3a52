use Rattle.std.proofs.Common.{◌≡◌, replicate, None}
use Rattle.store_sums.proofs.places.nothing_out.Given as goal

abbrev pub invariant-loop : goal.invariant-loop
invariant-loop l = l.out.items ≡ replicate l.counter None
