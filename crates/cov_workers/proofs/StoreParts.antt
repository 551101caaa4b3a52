-- Stores cross threads.
use denote.Param.Send.{IsSend, sendable}
use Rattle.std.proofs.Crossing.{crosses}
use Rattle.indexmap.proofs.map.IndexMap.TheSendSync as map
use Rattle.cov_tree.proofs.name.Name.TheSendSync as name
use Rattle.tally.proofs.tally.Tally.TheSendSync as tally
use Rattle.sampler.proofs.encoded.EncodedRecord.TheSendSync as content
use Rattle.sampler.proofs.plan.Plan.TheSendSync as plan
use Rattle.sampler.specs.contracts.planned.Planned as planned
use Rattle.store_sums.proofs.branches.Branches.TheSendSync as branches
use Rattle.store_sums.proofs.runs.Runs.TheSendSync as runs
use Rattle.store_sums.specs.contracts.sums.Sums as sums
use Rattle.store_parts.specs.contracts.held.HeldEvent as event
use Rattle.store_parts.specs.contracts.held.Held as held
use Rattle.store_parts.specs.contracts.held.Kept as kept
use Rattle.merge_store.specs.contracts.store.Store as store
use Rattle.sampler.proofs.Designs.{design_send, design_sync}

pub event_field_send : IsSend (event.the_field).row
event_field_send = search (sendable, crosses, content.the_send, content.the_sync, name.the_send, name.the_sync, design_send, design_sync) depth 30

pub held_send : IsSend held.the_row
held_send = search (sendable, crosses, event_field_send) depth 30

pub kept_send : IsSend kept.the_row
kept_send = search (sendable, crosses, content.the_send, content.the_sync, tally.the_send, tally.the_sync) depth 30

pub planned_send : IsSend planned.the_row
planned_send = search (sendable, crosses, design_send, design_sync, plan.the_send, plan.the_sync) depth 30

pub sums_field_send : IsSend (sums.the_field).row
sums_field_send = search (sendable, crosses, name.the_send, name.the_sync, planned_send, branches.the_send, runs.the_send) depth 30

pub store_send : IsSend store.the_row
store_send = search (sendable, crosses, map.the_send, design_send, design_sync, sums_field_send, held_send, kept_send) depth 40 fits 4000
