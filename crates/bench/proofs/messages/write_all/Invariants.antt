use Rattle.std.specs.Prelude.{◌≤◌, vec_capacity}
use Rattle.bench.proofs.messages.write_all.Given as goal

abbrev pub invariant-loop : goal.invariant-loop
invariant-loop l = vec_capacity l.initial.out ≤ vec_capacity l.out
