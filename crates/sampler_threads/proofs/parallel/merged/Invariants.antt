use Rattle.sampler_threads.specs.Merging.{IsMerged}
use Rattle.sampler_threads.proofs.parallel.merged.Given as goal

abbrev pub invariant-loop-part : goal.invariant-loop-part
invariant-loop-part l = IsMerged l.design l.rec l.labels l.parts l.part l.total.items
