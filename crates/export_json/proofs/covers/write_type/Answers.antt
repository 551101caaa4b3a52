use Rattle.std.proofs.Common.{[], ◌∷◌, codes}
use Rattle.json_text.specs.Values.{Member}
use Rattle.json_text.proofs.Parts.{last_member, object_written}
use Rattle.merge_store.specs.Stores.{opening_of, entries_of}
use Rattle.export_json.specs.Export.{members_at, instances_value, type_value}
use Rattle.export_json.proofs.covers.write_type.Goals as goal

pub returns : goal.returns
unfolding type_value
returns c =
    let opening = opening_of c.args.store.now in
    let h = entries_of c.args.store.now in
    let instances : Member = (codes "instances", instances_value opening h c.args.node) in
    object_written (members_at opening h c.args.node (instances ∷ [])) _ _ _ _ c.in_ok-begin_object.ensures
    (last_member (members_at opening h c.args.node []) instances _ _ _ _ c.in_ok-write_members_at.ensures c.in_ok-key.ensures c.in_ok-write_instances.ensures) c.in_ok-end_object.ensures
