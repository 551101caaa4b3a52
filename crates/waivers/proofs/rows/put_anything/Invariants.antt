use Rattle.waivers.specs.Patterns.{is_any}
use Rattle.waivers.proofs.Filled.{IsRunFrom}
use Rattle.waivers.proofs.rows.put_anything.Given as goal

abbrev pub invariant-loop-i : goal.invariant-loop-i
invariant-loop-i l = IsRunFrom is_any l.path l.fn.row l.row l.i

abbrev pub decreases-loop-i : goal.decreases-loop-i
decreases-loop-i l = l.i
