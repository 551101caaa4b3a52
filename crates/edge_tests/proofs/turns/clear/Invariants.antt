use Rattle.std.proofs.Common.{length}
use Rattle.edge_tests.proofs.turns.clear.Given as goal

abbrev pub decreases-loop-desk : goal.decreases-loop-desk
decreases-loop-desk l = length l.desks.items
