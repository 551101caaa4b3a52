use Rattle.turn_lock.specs.Seats.{IsSeatOf}
use Rattle.bench.proofs.turns.take_turns.Given as goal

abbrev pub invariant-loop : goal.invariant-loop
invariant-loop g l = IsSeatOf (λ _. tt) (λ _ _. Unit {0}) l.lock l.seat
