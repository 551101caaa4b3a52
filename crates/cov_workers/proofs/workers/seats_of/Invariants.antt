-- A seat lies at each place made so far, and there is room for those to come.
use Rattle.std.proofs.Common.{◌≡◌, ◌+◌, ◌≤◌}
use Rattle.std.specs.Prelude.{All, vec_len, vec_capacity}
use Rattle.turn_lock.specs.Seats.{number_of, seen, free, left}
use Rattle.cov_server.specs.Shares.{HasSeat}
use Rattle.cov_workers.specs.Seated.{IsHere}
use Rattle.cov_workers.proofs.workers.seats_of.Given as goal

abbrev pub invariant-loop-made : goal.invariant-loop-made
invariant-loop-made g l = record {
  made : vec_len l.seats ≡ l.made;
  room : l.workers ≤ vec_capacity l.seats;
  each : All (IsHere g.C.Book.base g.C.Book.sound l.shared) l.seats.items;
  seat : HasSeat g.C.Book.base g.C.Book.sound l.shared l.seat;
  number : number_of l.seat ≡ number_of l.initial.seat;
  seen : seen l.seat ≡ seen l.initial.seat;
  free : free l.seat + l.made ≡ free l.initial.seat;
  left : left l.seat + l.made ≡ left l.initial.seat;
}
