use Rattle.record_maker.specs.Generator.{rounds_from}
use Rattle.record_maker.proofs.Pushes.{SoFar}
use Rattle.record_maker.proofs.pushing.push_rounds.Given as goal

abbrev pub invariant-loop-left : goal.invariant-loop-left
invariant-loop-left l = SoFar l.initial.builder l.builder (rounds_from l.design l.left l.last) (rounds_from l.design l.rounds l.x)

abbrev pub decreases-loop-left : goal.decreases-loop-left
decreases-loop-left l = l.left
