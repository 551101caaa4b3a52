use Rattle.std.proofs.Common.{◌≡◌, length}
use Rattle.cross_sampler.specs.Plans.{HaveBins}
use Rattle.cross_sampler.proofs.building.declared_rows.Given as goal

abbrev pub invariant-loop-number : goal.invariant-loop-number
invariant-loop-number l = record { all : length l.rows.items ≡ l.number; at : HaveBins l.sizes l.bins l.declared l.rows.items }
