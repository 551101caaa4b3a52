use Rattle.std.proofs.Common.{◌≡◌, ℕ, ◌<◌, ◌≤◌, length, get_or, false, Option}
use Rattle.std.specs.Prelude.{ℤ}
use Rattle.trans_auto.specs.Layout.{SeqsInside}
use Rattle.trans_auto.specs.State.{PairSteps}
use Rattle.trans_auto.specs.Removing.{IsStep}
use Rattle.trans_auto.proofs.runs.move_runs.Given as goal

abbrev pub invariant-loop-k : goal.invariant-loop-k
invariant-loop-k l = record {
  len : length l.runs.items ≡ length l.initial.runs.items;
  step : (v : Option ℤ) → IsStep l.removed v l.initial.step → IsStep l.removed v l.step;
  moved : (v : Option ℤ) → SeqsInside 0 l.inside v l.own → IsStep l.removed v l.initial.step → (j : ℕ) (d : ℕ × ℕ) → j < l.k → PairSteps l.own l.removed v false (get_or l.initial.runs.items j d) (get_or l.runs.items j d);
  rest : (j : ℕ) (d : ℕ × ℕ) → l.k ≤ j → get_or l.runs.items j d ≡ get_or l.initial.runs.items j d;
}
