-- Designs cross threads.
use denote.Param.Send.{IsSend, IsSync, sendable}
use Rattle.std.proofs.Crossing.{crosses}
use Rattle.cov_base.proofs.sets.ValueSet.TheSendSync as set
use Rattle.cov_tree.proofs.name.Name.TheSendSync as name
use Rattle.cov_tree.proofs.list.List.TheSendSync as list
use Rattle.cov_tree.proofs.shared.Shared.TheSendSync as shared
use Rattle.trans_seq.proofs.seq.Seq.TheSendSync as seq
use Rattle.wildcard_bins.proofs.pattern.Pattern.TheSendSync as pattern
use Rattle.design_data.proofs.infos.BinKind.TheSendSync as kind
use Rattle.design_data.proofs.infos.GroupInfo.TheSendSync as group
use Rattle.design_data.proofs.infos.Signal.TheSendSync as signal
use Rattle.design_data.specs.contracts.infos.ItemShape as shape
use Rattle.design_data.specs.contracts.infos.BinRule as rule
use Rattle.design_data.specs.contracts.infos.BinInfo as bin
use Rattle.design_data.specs.contracts.infos.ItemInfo as item
use Rattle.design_data.specs.contracts.infos.InstInfo as instance
use Rattle.design_data.specs.contracts.design.Design as design
use Rattle.sampler_plans.proofs.Expressions.{bound_send, bound_sync, select_field_send, select_field_sync}

pub shape_field_send : IsSend (shape.the_field).row
shape_field_send = search (sendable, crosses, bound_send, list.the_send) depth 30

pub shape_field_sync : IsSync (shape.the_field).row
shape_field_sync = search (sendable, crosses, bound_sync, list.the_sync) depth 30

pub rule_field_send : IsSend (rule.the_field).row
rule_field_send = search (sendable, crosses, select_field_send, list.the_send, set.the_send, seq.the_send, pattern.the_send) depth 30

pub rule_field_sync : IsSync (rule.the_field).row
rule_field_sync = search (sendable, crosses, select_field_sync, list.the_sync, set.the_sync, seq.the_sync, pattern.the_sync) depth 30

pub bin_send : IsSend bin.the_row
bin_send = search (sendable, crosses, name.the_send, kind.the_field_send, rule_field_send, shared.the_send, bound_send, bound_sync) depth 30

pub bin_sync : IsSync bin.the_row
bin_sync = search (sendable, crosses, name.the_sync, kind.the_field_sync, rule_field_sync, shared.the_sync, bound_sync, bound_send) depth 30

pub item_send : IsSend item.the_row
item_send = search (sendable, crosses, name.the_send, bound_send, shape_field_send, list.the_send, bin_send, seq.the_send) depth 30

pub item_sync : IsSync item.the_row
item_sync = search (sendable, crosses, name.the_sync, bound_sync, shape_field_sync, list.the_sync, bin_sync, seq.the_sync) depth 30

pub instance_send : IsSend instance.the_row
instance_send = search (sendable, crosses, name.the_send, list.the_send, signal.the_send, item_send) depth 30

pub instance_sync : IsSync instance.the_row
instance_sync = search (sendable, crosses, name.the_sync, list.the_sync, signal.the_sync, item_sync) depth 30

pub design_send : IsSend design.the_row
design_send = search (sendable, crosses, list.the_send, signal.the_send, group.the_send, instance_send) depth 30

pub design_sync : IsSync design.the_row
design_sync = search (sendable, crosses, list.the_sync, signal.the_sync, group.the_sync, instance_sync) depth 30
