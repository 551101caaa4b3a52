use Rattle.std.specs.Prelude.{Some}
use Rattle.cov_server.specs.Legal.{seat_history}
use Rattle.cov_server.proofs.shared.Shared.meet.Goals as goal

pub returns-clause-history : goal.returns-clause-history
returns-clause-history g c = seat_history g.C.Book.base g.C.Book.sound g.met.C.Core.lawful c.args.self.now.lock (Some c.meet.new.a) c.meet.ensures.a.0
