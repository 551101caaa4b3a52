use Rattle.std.proofs.Common.{◌≡◌, take, not}
use Rattle.std.specs.Prelude.{filter}
use Rattle.cross_holes.specs.Projected.{member_on}
use Rattle.cross_holes.specs.Marks.{is_marked}
use Rattle.cross_holes.proofs.holes.unmarked.Given as goal

abbrev pub invariant-loop-node : goal.invariant-loop-node
invariant-loop-node l = l.rest ≡ filter (λ n. not (is_marked l.marks (member_on l.nodes l.item l.axis n))) (take l.node-index l.holes)
