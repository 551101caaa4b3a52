use Rattle.std.proofs.Common.{◌≡◌, ◌++◌, length}
use Rattle.std.specs.List.{flat_map}
use Rattle.merge_store.specs.Stores.{opening_of, entries_of}
use Rattle.store_waivers.specs.Waived.{excluding}
use Rattle.store_waivers.specs.Among.{paths_among, line_among}
use Rattle.store_waivers.proofs.waiving.waive_each.Given as goal

abbrev pub invariant-loop-waiver : goal.invariant-loop-waiver
invariant-loop-waiver l = record {
  opening : opening_of l.store ≡ opening_of l.initial.store;
  so_far : excluding (opening_of l.initial.store) (entries_of l.store) (flat_map (paths_among l.paths) l.rest)
      ≡ excluding (opening_of l.initial.store) (entries_of l.initial.store) (flat_map (paths_among l.paths) l.waivers);
  told : l.text.items ++ flat_map (line_among l.paths) l.rest
      ≡ l.initial.text.items ++ flat_map (line_among l.paths) l.waivers;
}

abbrev pub decreases-loop-waiver : goal.decreases-loop-waiver
decreases-loop-waiver l = length l.rest
