-- A shared core crosses threads where the core may be sent.
use denote.RattleType.{RattleType}
use denote.Param.Send.{IsSend, IsSync, sendable}
use Rattle.std.proofs.Crossing.{crosses}
use Rattle.cov_base.specs.declared.book.Book.{Ghosts}
use Rattle.design_data.specs.declared.design.Design.{Design}
use Rattle.cov_history.specs.declared.entry.Entry.{Entry}
use Rattle.turn_lock.proofs.types.TurnLock.TheSendSync as lock
use Rattle.cov_server.specs.contracts.shared.Shared as shared
use Rattle.sampler.proofs.Designs.{design_send, design_sync}

pub shared_sync : (T : RattleType) (g : Ghosts T.Denot Design Entry) → IsSend T → IsSync (shared.the_row T g)
shared_sync T g s = search (sendable, crosses, lock.the_field_sync, design_send, design_sync) depth 40 fits 4000
