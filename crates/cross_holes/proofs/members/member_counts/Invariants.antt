use Rattle.std.proofs.Common.{◌≡◌, ◌≤◌, take, length}
use Rattle.cross_holes.specs.Projected.{member_on}
use Rattle.cross_holes.specs.Counts.{AreCounts}
use Rattle.cross_holes.proofs.members.member_counts.Given as goal

abbrev pub invariant-loop-place : goal.invariant-loop-place
invariant-loop-place l = record {
  counts : AreCounts (member_on l.nodes l.item l.axis) l.members (take l.place l.bins) l.counts.items;
  within : l.place ≤ l.place-end;
  end : l.place-end ≡ length l.bins;
}
