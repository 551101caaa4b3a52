use Rattle.cross_sampler.proofs.Radix.{Counted}
use Rattle.cross_sampler.proofs.products.number.Given as goal

abbrev pub invariant-loop-k : goal.invariant-loop-k
invariant-loop-k l = Counted l.sizes l.product l.k l.number
