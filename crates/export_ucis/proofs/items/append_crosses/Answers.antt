use Rattle.std.proofs.Common.{rules, length}
use Rattle.std.proofs.lemmas.Slice.Zip.{zip_end}
use Rattle.merge_store.specs.Stores.{opening_of, entries_of}
use Rattle.export_ucis.specs.Nodes.{cross_of, crosses_of}
use Rattle.export_ucis.proofs.Pairs.{all_written}
use Rattle.export_ucis.proofs.items.append_crosses.Goals as goal

pub returns : goal.returns
unfolding crosses_of
returns c =
    let xs = c.args.items.now in
    let ns = c.args.nodes.now in
    let end = zip_end xs ns c.loop-item.yielded c.into_iter-item-iterator.result c.loop-item.item-iterator c.next.new.self c.next.result (search rules) (search rules) c.loop-item.yielded_by c.in-None.is c.next.ensures.steps in
    all_written (cross_of (opening_of c.args.store.now) (entries_of c.args.store.now) c.args.items.now) xs ns (length c.loop-item.yielded) c.args.text.now.items c.loop-item.text.items end c.loop-item.invariant
