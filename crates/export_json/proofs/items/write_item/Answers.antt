use Rattle.std.proofs.Common.{[], ◌∷◌, codes}
use Rattle.ucis_model.specs.Paths.{node_at, path_of}
use Rattle.json_text.specs.Values.{Member}
use Rattle.json_text.proofs.Parts.{last_member, object_written}
use Rattle.merge_store.specs.Now.{nodes_now}
use Rattle.merge_store.specs.Stores.{opening_of, entries_of}
use Rattle.store_views.specs.Views.{rows_at}
use Rattle.export_json.specs.Export.{item_members, bins_value, item_value}
use Rattle.export_json.proofs.items.write_item.Goals as goal

pub returns : goal.returns
unfolding item_value
returns c =
    let opening = opening_of c.args.store.now in
    let h = entries_of c.args.store.now in
    let nodes = nodes_now c.args.store.now in
    let n = c.args.node in
    let members = item_members (path_of nodes n) (rows_at opening h n) (node_at nodes n) in
    let bins : Member = (codes "bins", bins_value opening h n) in
    object_written (members (bins ∷ [])) _ _ _ _ c.in_ok-begin_object.ensures
    (last_member (members []) bins _ _ _ _ c.in_ok-write_members_at.ensures c.in_ok-key.ensures c.in_ok-write_bins.ensures) c.in_ok-end_object.ensures
