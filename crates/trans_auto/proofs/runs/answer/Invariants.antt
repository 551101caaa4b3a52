use Rattle.std.proofs.Common.{◌≡◌, true, false}
use Rattle.trans_seq.specs.Windows.{InSome}
use Rattle.trans_auto.specs.State.{Remains}
use Rattle.trans_auto.proofs.RunLemmas.{SomeRunHas, NoneBelowHas}
use Rattle.trans_auto.proofs.runs.answer.Given as goal

abbrev pub invariant-loop-run : goal.invariant-loop-run
invariant-loop-run l = record {
  none_counts : NoneBelowHas l.own l.removed (Remains l.own l.removed) l.runs l.run-index;
  one_ends : l.ends ≡ true → SomeRunHas l.own l.removed (λ u. InSome l.own u) l.runs;
  none_ends : l.ends ≡ false → NoneBelowHas l.own l.removed (λ u. InSome l.own u) l.runs l.run-index;
}
