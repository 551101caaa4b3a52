use Rattle.cross_sampler.specs.Plans.{AreRows}
use Rattle.cross_sampler.proofs.building.rows.Given as goal

abbrev pub invariant-loop-bin : goal.invariant-loop-bin
invariant-loop-bin l = AreRows l.sizes l.bins l.bin l.rows.items
