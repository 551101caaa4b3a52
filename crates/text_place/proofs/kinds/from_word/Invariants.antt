use Rattle.std.proofs.Common.{◌≡◌, length}
use Rattle.text_place.specs.Kinds.{from_word}
use Rattle.text_place.proofs.kinds.from_word.Given as goal

abbrev pub invariant-loop-byte : goal.invariant-loop-byte
invariant-loop-byte l = from_word l.rest ≡ from_word l.front

abbrev pub decreases-loop-byte : goal.decreases-loop-byte
decreases-loop-byte l = length l.rest
