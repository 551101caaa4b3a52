use Rattle.std.proofs.Common.{◌≡◌, map, length}
use Rattle.text_place.specs.Kinds.{has_any}
use Rattle.text_place.proofs.kinds.has_any.Given as goal

abbrev pub invariant-loop-later : goal.invariant-loop-later
invariant-loop-later l = has_any l.rest (map (λ word. word.now) l.words) ≡ has_any l.text (map (λ word. word.now) l.words)

abbrev pub decreases-loop-later : goal.decreases-loop-later
decreases-loop-later l = length l.rest
