use Rattle.std.proofs.Common.{arith}
use Rattle.trans_found.specs.Found.{lists_of}
use Rattle.trans_lists.proofs.MetLemmas.{merged_all, merged_few, merges_none}
use Rattle.trans_lists.proofs.listing.merged.Goals as goal

pub loop-place-init : goal.loop-place-init
loop-place-init c = record {
  merges = merges_none c.args.seqs.now c.none_found-found.result c.none_found-found.ensures.holds c.none_found-found.ensures.groups c.none_found-found.ensures.fresh;
  held = c.none_known-known.ensures (lists_of c.none_found-found.result);
}

pub returns-clause-lists : goal.returns-clause-lists
returns-clause-lists c = merged_all c.args.seqs.now c.loop-place.place c.loop-place.found (omega arith) c.loop-place.invariant.merges

pub returns-clause-few : goal.returns-clause-few
returns-clause-few c = merged_few c.args.seqs.now c.loop-place.place c.loop-place.found (omega arith) c.loop-place.invariant.merges
