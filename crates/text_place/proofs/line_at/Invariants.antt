use Rattle.text_place.specs.Places.{IsLine}
use Rattle.text_place.proofs.line_at.Given as goal

abbrev pub invariant-loop-i : goal.invariant-loop-i
invariant-loop-i l = IsLine l.text l.i l.line.number l.line.start
