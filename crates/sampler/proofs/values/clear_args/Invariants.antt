use Rattle.std.specs.Prelude.{ℕ, List, [], Option}
use Rattle.sampler.specs.Values.{Writes}
use Rattle.sampler.proofs.values.clear_args.Given as goal

abbrev pub invariant-loop-slot : goal.invariant-loop-slot
invariant-loop-slot l = (args : List (Option ℕ)) → Writes [] args l.initial.values l.values l.slot
