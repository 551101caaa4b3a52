-- So many links were handed out, each was served, and all else of the seat is as it was.
use Rattle.std.proofs.Common.{◌≡◌, ◌+◌, ◌-◌, ◌^◌, ◌<◌, ◌≤◌}
use Rattle.std.specs.Prelude.{min}
use Rattle.cov_history.specs.Turns.{Grown}
use Rattle.turn_lock.specs.Seats.{IsSame, seen}
use Rattle.cov_server.specs.Shares.{HasSeat}
use Rattle.cov_server.proofs.serving.serve_rounds.Given as goal

abbrev pub invariant-loop-round : goal.invariant-loop-round
invariant-loop-round g l = record {
  seat : HasSeat g.C.Book.base g.C.Book.sound l.shared l.seat;
  same : IsSame l.initial.seat l.seat;
  begins : Grown (seen l.initial.seat) (seen l.seat);
  handed : 0 < l.round → g.D.Door.handed l.door ≡ min (g.D.Door.handed l.initial.door + l.round) (2 ^ 64 - 1);
  none : l.round ≡ 0 → g.D.Door.handed l.door ≡ g.D.Door.handed l.initial.door;
  later : g.D.Door.faults l.initial.door ≤ g.D.Door.faults l.door;
}
