use Rattle.std.proofs.Common.{◌≡◌, ℕ, List, length, true}
use Rattle.record_codec.specs.Samples.{Env}
use Rattle.sampler.specs.Standing.{IsSample, AllFit, AllStand, SomeTaken, point_first}
use Rattle.sampler.proofs.Alone.{SomePoints}
use Rattle.sampler.proofs.Items.{SomeRows}
use Rattle.sampler.proofs.instance.take_points.Given as goal

abbrev pub invariant-loop-i : goal.invariant-loop-i
invariant-loop-i l = record {
  plans_len : length l.plans ≡ length l.items;
  states_len : length l.states.items ≡ length l.chosen;
  rows_len : length l.rows.items ≡ length l.items;
  counts_len : length l.counts ≡ length l.initial.counts;
  fits : AllFit l.items l.plans l.chosen l.states.items;
  taken : (all : List Env) (m : ℕ) → IsSample all m l.env → AllStand l.items l.plans l.chosen all (λ shape. m) l.initial.states.items l.initial.counts
      → SomeTaken l.items l.plans l.chosen all (λ shape. m) (λ shape. point_first shape m) l.i l.initial.counts l.states.items l.counts;
  hit : (all : List Env) (m : ℕ) → IsSample all m l.env → AllStand l.items l.plans l.chosen all (λ shape. m) l.initial.states.items l.initial.counts
      → SomeRows l.items l.chosen all m l.i l.rows.items;
  alone : l.alone ≡ true → SomePoints l.items l.chosen l.i;
}
