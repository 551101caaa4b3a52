use denote.Param.Send.{sendable}
use Rattle.std.proofs.Crossing.{crosses}
use Rattle.sampler.proofs.plan.Plan.TheSendSync as plan
use Rattle.sampler.proofs.Designs.{design_sync}
use Rattle.store_core.proofs.parts.parts_of.Goals as goal

pub map_chunks-requires-sync-F : goal.map_chunks-requires-sync-F
map_chunks-requires-sync-F g c κs within = search (sendable, crosses, design_sync, plan.the_sync) depth 40
