use Rattle.std.proofs.Common.{[], ◌∷◌, codes}
use Rattle.json_text.specs.Values.{Member}
use Rattle.json_text.proofs.Parts.{last_member, object_written}
use Rattle.merge_store.specs.Stores.{opening_of, entries_of}
use Rattle.export_json.specs.Export.{members_at, items_value, instance_value}
use Rattle.export_json.proofs.covers.write_instance.Goals as goal

pub returns : goal.returns
unfolding instance_value
returns c =
    let opening = opening_of c.args.store.now in
    let h = entries_of c.args.store.now in
    let items : Member = (codes "items", items_value opening h c.args.node) in
    object_written (members_at opening h c.args.node (items ∷ [])) _ _ _ _ c.in_ok-begin_object.ensures
    (last_member (members_at opening h c.args.node []) items _ _ _ _ c.in_ok-write_members_at.ensures c.in_ok-key.ensures c.in_ok-write_items.ensures) c.in_ok-end_object.ensures
