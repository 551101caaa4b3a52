use Rattle.std.proofs.Common.{◌≡◌, length}
use Rattle.std.specs.Prelude.{slice_index}
use Rattle.std.specs.List.{AllByRecursion}
use Rattle.sampler_threads.proofs.labels.have_label.Given as goal

abbrev pub invariant-loop-axis : goal.invariant-loop-axis
invariant-loop-axis l = AllByRecursion (λ axis. slice_index l.labels axis ≡ l.own) l.rest → AllByRecursion (λ axis. slice_index l.labels axis ≡ l.own) l.axes

abbrev pub decreases-loop-axis : goal.decreases-loop-axis
decreases-loop-axis l = length l.rest
