use Rattle.std.proofs.Common.{refl, sym, ◌∙◌, append-nil, [], arith, Some}
use Rattle.cov_session.proofs.Growing.{grown_then}
use Rattle.turn_lock.specs.Seats.{seen}
use Rattle.cov_server.specs.Legal.{seat_history}
use Rattle.cov_server.proofs.Rounds.{handed_more}
use Rattle.cov_server.proofs.serving.serve_rounds.Goals as goal

pub loop-round-init : goal.loop-round-init
loop-round-init g c = record {
  seat = c.requires;
  same = record { same_number = refl; same_free = refl; same_left = refl; same_opened = refl };
  begins = record { more = []; is = sym (append-nil (seen c.args.seat)) };
  handed = λ some. absurd (omega arith);
  none = λ _. refl;
  later = omega arith;
}

pub returns-in-Err-clause-history : goal.returns-in-Err-clause-history
returns-in-Err-clause-history g c = seat_history g.C.Book.base g.C.Book.sound g.met.C.Core.lawful c.args.shared.now.lock (Some c.loop-round.seat) c.loop-round.invariant.seat.0

pub loop-round-preserved : goal.loop-round-preserved
loop-round-preserved g c =
    let i = c.loop-round.invariant in
    let e = c.serve_connection-next.ensures in
    record {
      seat = e.seat;
      same = record { same_number = e.same.same_number ∙ i.same.same_number; same_free = e.same.same_free ∙ i.same.same_free; same_left = e.same.same_left ∙ i.same.same_left; same_opened = e.same.same_opened ∙ i.same.same_opened };
      begins = grown_then i.begins e.begins;
      handed = λ _. handed_more (g.D.Door.handed c.args.door.now) (g.D.Door.handed c.loop-round.door) (g.D.Door.handed c.accept.new.self) c.loop-round.round i.handed i.none c.in-Ok.ensures.handed;
      none = λ zero. absurd (omega arith);
      later = omega (arith, i.later, c.in-Ok.ensures.cause.later);
    }

pub returns-clause-history : goal.returns-clause-history
returns-clause-history g c = seat_history g.C.Book.base g.C.Book.sound g.met.C.Core.lawful c.args.shared.now.lock (Some c.loop-round.seat) c.loop-round.invariant.seat.0
