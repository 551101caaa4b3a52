use Rattle.sampler.specs.Values.{Writes}
use Rattle.sampler.proofs.values.write_args.Given as goal

abbrev pub invariant-loop-k : goal.invariant-loop-k
invariant-loop-k l = Writes l.rows l.args l.initial.values l.values l.k
