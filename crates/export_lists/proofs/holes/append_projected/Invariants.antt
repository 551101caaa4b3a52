use Rattle.std.proofs.Common.{◌≡◌, ◌++◌, take}
use Rattle.std.specs.List.{flat_map}
use Rattle.export_lists.specs.Lines.{all_line}
use Rattle.export_lists.proofs.holes.append_projected.Given as goal

abbrev pub invariant-loop-hole : goal.invariant-loop-hole
invariant-loop-hole l = l.text.items ≡ l.initial.text.items ++ flat_map (λ hole. all_line l.path hole.point hole.member) (take l.hole-index l.holes)
