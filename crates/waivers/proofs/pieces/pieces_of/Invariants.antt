use Rattle.std.proofs.Common.{◌≡◌, ◌++◌, length}
use Rattle.waivers.specs.Patterns.{parts}
use Rattle.waivers.specs.Pieces.{parts_of}
use Rattle.waivers.proofs.pieces.pieces_of.Given as goal

abbrev pub invariant-loop-rest : goal.invariant-loop-rest
invariant-loop-rest l = parts_of l.pieces.items ++ parts l.rest ≡ parts l.pattern

abbrev pub decreases-loop-rest : goal.decreases-loop-rest
decreases-loop-rest l = length l.rest
