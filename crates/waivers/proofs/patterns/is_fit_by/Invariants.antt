use Rattle.std.proofs.Common.{◌≤◌, drop, length}
use Rattle.waivers.specs.Patterns.{fits}
use Rattle.waivers.specs.Pieces.{parts_of, IsRow}
use Rattle.waivers.proofs.patterns.is_fit_by.Given as goal

abbrev pub invariant-loop-next : goal.invariant-loop-next
invariant-loop-next l = record {
  within : l.next ≤ length l.pieces;
  row : IsRow (fits (parts_of (drop l.next l.pieces))) l.path l.row;
}

abbrev pub decreases-loop-next : goal.decreases-loop-next
decreases-loop-next l = l.next
