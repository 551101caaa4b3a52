use Rattle.waivers.proofs.Filled.{IsPutBelow}
use Rattle.waivers.proofs.rows.put_literal.Given as goal

abbrev pub invariant-loop-place : goal.invariant-loop-place
invariant-loop-place l = IsPutBelow l.path l.literal l.fn.row l.row l.place
