use Rattle.std.proofs.Common.{rules, length}
use Rattle.std.proofs.lemmas.Slice.Zip.{zip_end}
use Rattle.merge_store.specs.Stores.{opening_of, entries_of}
use Rattle.export_ucis.specs.Nodes.{point_of, points_of}
use Rattle.export_ucis.proofs.Pairs.{all_written}
use Rattle.export_ucis.proofs.items.append_points.Goals as goal

pub returns : goal.returns
unfolding points_of
returns c =
    let xs = c.args.items.now in
    let ns = c.args.nodes.now in
    let end = zip_end xs ns c.loop-item.yielded c.into_iter-item-iterator.result c.loop-item.item-iterator c.next.new.self c.next.result (search rules) (search rules) c.loop-item.yielded_by c.in-None.is c.next.ensures.steps in
    all_written (point_of (opening_of c.args.store.now) (entries_of c.args.store.now) c.args.arguments.now) xs ns (length c.loop-item.yielded) c.args.text.now.items c.loop-item.text.items end c.loop-item.invariant
