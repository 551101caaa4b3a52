use Rattle.std.proofs.Common.{◌≡◌, map, drop}
use Rattle.text_place.specs.Kinds.{begins_any}
use Rattle.text_place.proofs.kinds.begins_any.Given as goal

abbrev pub invariant-loop-mark : goal.invariant-loop-mark
invariant-loop-mark l = begins_any l.front (map (λ mark. mark.now) (drop l.mark-index l.marks)) ≡ begins_any l.front (map (λ mark. mark.now) l.marks)
