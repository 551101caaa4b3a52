use denote.Param.Send.{sendable}
use Rattle.std.proofs.Crossing.{crosses}
use Rattle.cov_tree.proofs.list.List.TheSendSync as list
use Rattle.record_codec.proofs.record.Record.TheSendSync as content
use Rattle.sampler.proofs.plan.Plan.TheSendSync as plan
use Rattle.sampler.proofs.Designs.{design_sync}
use Rattle.sampler_threads.proofs.parallel.all_parts.Goals as goal

pub map_indices-requires-sync-F : goal.map_indices-requires-sync-F
map_indices-requires-sync-F g c κs within = search (sendable, crosses, design_sync, list.the_sync, content.the_sync, plan.the_sync) depth 40
