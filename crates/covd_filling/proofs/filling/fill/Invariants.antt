use Rattle.std.proofs.Common.{◌≡◌, ◌≤◌, ◌<◌, ◌+◌, ◌^◌, length}
use Rattle.std.specs.Arc.{arc_value}
use Rattle.merge_store.specs.Stores.{entries_of}
use Rattle.covd_commands.specs.Options.{options_in}
use Rattle.covd_commands.specs.Origins.{origins_of}
use Rattle.covd_filling.specs.Batches.{AreFound}
use Rattle.covd_filling.specs.Steps.{IsPlain, filled_of}
use Rattle.covd_filling.proofs.Fillings.{SoFar}
use Rattle.covd_filling.proofs.filling.fill.Given as goal

abbrev pub invariant-loop-origin : goal.invariant-loop-origin
invariant-loop-origin g l = record {
  plain : IsPlain (arc_value l.terms.design.now) l.store;
  same : g.F.Shelf.files l.shelf ≡ g.F.Shelf.files l.initial.shelf;
  later : g.F.Shelf.faults l.initial.shelf ≤ g.F.Shelf.faults l.shelf;
  so_far : SoFar (options_in l.options) (g.F.Shelf.files l.initial.shelf) (g.F.Shelf.faults l.initial.shelf) (g.F.Shelf.faults l.shelf) (arc_value l.terms.design.now) (origins_of l.origins) (l.k + 1) (filled_of l.store l.left) (origins_of l.rest);
  found : AreFound (g.F.Shelf.files l.initial.shelf) (arc_value l.terms.design.now) (l.k + 1) (origins_of l.rest) l.found.items;
  count : l.count ≡ length (origins_of l.rest);
  counted : l.k + l.count < 2 ^ 64;
}

abbrev pub decreases-loop-origin : goal.decreases-loop-origin
decreases-loop-origin g l = length (origins_of l.rest)
