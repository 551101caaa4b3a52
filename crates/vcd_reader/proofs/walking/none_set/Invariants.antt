use Rattle.std.proofs.Common.{◌≡◌, ◌++◌, length, map, None}
use Rattle.vcd_reader.proofs.walking.none_set.Given as goal

abbrev pub invariant-loop-later : goal.invariant-loop-later
invariant-loop-later l = l.last.items ++ map (λ code. None) l.rest ≡ map (λ code. None) l.codes

abbrev pub decreases-loop-later : goal.decreases-loop-later
decreases-loop-later l = length l.rest
