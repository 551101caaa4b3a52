use Rattle.std.proofs.Common.{ℕ, List, ◌++◌}
use Rattle.record_codec.specs.Bytes.{signal_table, instance_table, event_list}
use Rattle.record_codec.proofs.Appended.{behind}
use Rattle.record_codec.proofs.encoding.append_tables.Goals as goal

pub returns : goal.returns
returns c =
    let a = c.args in
    let all = c.append_events.new.out.items in
    let from_instances : List ℕ = instance_table a.version a.instances.now ++ event_list a.events.now in
    behind a.out.now.items c.append_signals.new.out.items all (signal_table a.signals.now) from_instances c.in_ok-append_signals.ensures
    (behind c.append_signals.new.out.items c.append_instances.new.out.items all (instance_table a.version a.instances.now) (event_list a.events.now) c.in_ok-append_instances.ensures c.in_ok-append_events.ensures)
