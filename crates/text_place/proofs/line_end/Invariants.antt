use Rattle.std.proofs.Common.{◌≤◌, ◌-◌, length}
use Rattle.text_place.specs.Places.{IsOneLine}
use Rattle.text_place.proofs.line_end.Given as goal

abbrev pub invariant-loop-end : goal.invariant-loop-end
invariant-loop-end l = record {
  behind : l.at ≤ l.end;
  within : l.end ≤ length l.text;
  whole : IsOneLine l.text l.at l.end;
}

abbrev pub decreases-loop-end : goal.decreases-loop-end
decreases-loop-end l = length l.text - l.end
