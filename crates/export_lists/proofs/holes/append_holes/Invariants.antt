use Rattle.std.proofs.Common.{◌≡◌, ◌++◌, take}
use Rattle.std.specs.List.{flat_map}
use Rattle.merge_store.specs.Now.{nodes_now, count_now}
use Rattle.export_lists.specs.Holes.{line_of_hole}
use Rattle.export_lists.proofs.holes.append_holes.Given as goal

abbrev pub invariant-loop-hole : goal.invariant-loop-hole
invariant-loop-hole l = l.text.items ≡ l.initial.text.items ++ flat_map (line_of_hole (nodes_now l.store) (count_now l.store)) (take l.hole-index l.holes)
