use Rattle.std.proofs.Common.{rules, length}
use Rattle.std.proofs.lemmas.Slice.Zip.{zip_end}
use Rattle.merge_store.specs.Stores.{opening_of, entries_of}
use Rattle.export_ucis.specs.Nodes.{bin_of_cross, bins_of_cross}
use Rattle.export_ucis.proofs.Pairs.{all_written}
use Rattle.export_ucis.proofs.bins.append_bins_of_cross.Goals as goal

pub returns : goal.returns
unfolding bins_of_cross
returns c =
    let xs = c.args.bins.now in
    let ns = c.args.nodes.now in
    let end = zip_end xs ns c.loop-bin.yielded c.into_iter-bin-iterator.result c.loop-bin.bin-iterator c.next.new.self c.next.result (search rules) (search rules) c.loop-bin.yielded_by c.in-None.is c.next.ensures.steps in
    all_written (bin_of_cross (opening_of c.args.store.now) (entries_of c.args.store.now)) xs ns (length c.loop-bin.yielded) c.args.text.now.items c.loop-bin.text.items end c.loop-bin.invariant
