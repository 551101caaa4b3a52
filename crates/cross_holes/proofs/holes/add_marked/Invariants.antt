use Rattle.std.proofs.Common.{◌≡◌, ◌≤◌, ◌++◌, ◌∷◌, [], length, if◌then◌else◌}
use Rattle.std.specs.List.{flat_map, range_with_len}
use Rattle.cross_holes.specs.Projected.{named}
use Rattle.cross_holes.specs.Marks.{is_new}
use Rattle.cross_holes.proofs.holes.add_marked.Given as goal

abbrev pub invariant-loop-member : goal.invariant-loop-member
invariant-loop-member l =
    (l.found ≡ l.initial.found ++ flat_map (λ member. if is_new l.marks l.counts member then named l.axis member ∷ [] else []) (range_with_len 0 l.member)) × (l.member ≤ l.member-end) × (l.member-end ≡ length l.counts)
