use Rattle.std.proofs.Common.{◌≡◌, ◌≤◌, length}
use Rattle.std.specs.List.{flat_map, range_with_len}
use Rattle.cross_holes.specs.Projected.{cross_with, projected_on, unsaid}
use Rattle.cross_holes.proofs.holes.holes_along.Given as goal

abbrev pub invariant-loop-number : goal.invariant-loop-number
invariant-loop-number l = record {
  projected : l.found.projected ≡ flat_map (projected_on (cross_with l.axes l.nodes l.item l.live l.holes)) (range_with_len 0 l.number);
  alone : l.found.alone ≡ unsaid (cross_with l.axes l.nodes l.item l.live l.holes) l.number;
  within : l.number ≤ l.number-end;
  end : l.number-end ≡ length l.axes;
}
