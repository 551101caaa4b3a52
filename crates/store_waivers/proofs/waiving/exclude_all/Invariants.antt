use Rattle.std.proofs.Common.{◌≡◌, ◌<◌, length}
use Rattle.std.specs.Prelude.{All}
use Rattle.merge_store.specs.Stores.{opening_of, entries_of}
use Rattle.store_waivers.specs.Waived.{excluding}
use Rattle.store_waivers.specs.Among.{paths_at}
use Rattle.store_waivers.proofs.waiving.exclude_all.Given as goal

abbrev pub invariant-loop-place : goal.invariant-loop-place
invariant-loop-place l = record {
  inside : All (λ place. place < length l.paths) l.rest;
  opening : opening_of l.store ≡ opening_of l.initial.store;
  so_far : excluding (opening_of l.initial.store) (entries_of l.store) (paths_at l.paths l.rest)
      ≡ excluding (opening_of l.initial.store) (entries_of l.initial.store) (paths_at l.paths l.places);
}

abbrev pub decreases-loop-place : goal.decreases-loop-place
decreases-loop-place l = length l.rest
