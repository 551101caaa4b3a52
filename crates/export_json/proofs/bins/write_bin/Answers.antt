use Rattle.json_text.proofs.Parts.{object_written}
use Rattle.merge_store.specs.Now.{nodes_now, count_now, excluded_now}
use Rattle.export_json.specs.Export.{bin_members_at, bin_value}
use Rattle.export_json.proofs.bins.write_bin.Goals as goal

pub returns : goal.returns
unfolding bin_value
returns c =
    object_written (bin_members_at (nodes_now c.args.store.now) (count_now c.args.store.now) (excluded_now c.args.store.now) c.args.node) _ _ _ _
    c.in_ok-begin_object.ensures c.in_ok-write_members_at.ensures c.in_ok-end_object.ensures
