use Rattle.std.proofs.Common.{◌≡◌, ◌≢◌, ◌≤◌, ◌-◌, ◌∷◌, ◌++◌, [], ℕ, List, length, take, IsTrue}
use Rattle.std.specs.Prelude.{Contains, AllPairs}
use Rattle.design_data.specs.Laws.{Value}
use Rattle.point_sampler.specs.Points.{RunsStand}
use Rattle.point_sampler.specs.Met.{AreSteps, Answered, IsPlaceOf, SomeTaken}
use Rattle.point_sampler.proofs.machines.push_machines.Given as goal

abbrev pub decreases-loop-k : goal.decreases-loop-k
decreases-loop-k l = length l.machines - l.k

abbrev pub invariant-loop-k : goal.invariant-loop-k
invariant-loop-k l = record {
  same : length l.runs ≡ length l.machines;
  order : l.k ≤ length l.machines;
  ready : IsTrue l.is_ready → AreSteps l.removers l.value l.steps;
  among : (place : ℕ) → Contains l.met.items place → IsPlaceOf (take l.k l.machines) place;
  once : AllPairs (λ a b. a ≢ b) l.met.items;
  runs : (w : List Value) → RunsStand l.machines l.removers l.initial.runs w → SomeTaken l.machines l.removers w l.value l.k l.runs;
  says : (w : List Value) → RunsStand l.machines l.removers l.initial.runs w → Answered (take l.k l.machines) l.removers (w ++ l.value ∷ []) l.met.items l.ended;
}
