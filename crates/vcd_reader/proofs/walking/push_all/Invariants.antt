use Rattle.vcd_reader.specs.Pushing.{Pushed}
use Rattle.vcd_reader.proofs.walking.push_all.Given as goal

abbrev pub invariant-loop-event : goal.invariant-loop-event
invariant-loop-event l = Pushed l.initial.builder l.builder l.yielded
