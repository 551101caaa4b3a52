use Rattle.std.proofs.Common.{◌≡◌, ◌≤◌, List, length}
use Rattle.covd_commands.specs.Finding.{Origin}
use Rattle.covd_commands.specs.Origins.{origins_of}
use Rattle.covd_commands.specs.Ahead.{AreRead}
use Rattle.covd_commands.proofs.ahead.read_more.Given as goal

abbrev pub invariant-loop-origin : goal.invariant-loop-origin
invariant-loop-origin g l = record {
  same : g.F.Shelf.files l.shelf ≡ g.F.Shelf.files l.initial.shelf;
  later : g.F.Shelf.faults l.initial.shelf ≤ g.F.Shelf.faults l.shelf;
  grows : length l.initial.batch.items ≤ length l.batch.items;
  read : (all : List Origin) → AreRead (g.F.Shelf.files l.initial.shelf) all l.initial.batch.items (origins_of l.origins) → AreRead (g.F.Shelf.files l.initial.shelf) all l.batch.items (origins_of l.rest);
}

abbrev pub decreases-loop-origin : goal.decreases-loop-origin
decreases-loop-origin g l = length (origins_of l.rest)
