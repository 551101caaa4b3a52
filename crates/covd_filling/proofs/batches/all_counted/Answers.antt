use denote.Param.Send.{sendable}
use Rattle.std.proofs.Crossing.{crosses}
use Rattle.sampler.proofs.plan.Plan.TheSendSync as plan
use Rattle.sampler.proofs.Designs.{design_sync}
use Rattle.covd_commands.proofs.finding.Source.TheSendSync as source
use Rattle.covd_filling.proofs.batches.all_counted.Goals as goal

pub map_indices-requires-sync-F : goal.map_indices-requires-sync-F
map_indices-requires-sync-F g c κs within = search (sendable, crosses, design_sync, plan.the_sync, source.the_sync) depth 40

pub returns-clause-each : goal.returns-clause-each
returns-clause-each g c index d lt = let each = c.in_ok-found.ensures.each index d lt in each.1.met
