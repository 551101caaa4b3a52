use Rattle.std.proofs.Common.{◌≡◌, ◌≤◌, map, length, slice_index}
use Rattle.std.specs.List.{range_with_len}
use Rattle.cross_holes.specs.Projected.{is_bare}
use Rattle.cross_holes.proofs.holes.marks_from.Given as goal

abbrev pub invariant-loop-member : goal.invariant-loop-member
invariant-loop-member l =
    (l.marks.items ≡ map (λ member. is_bare (slice_index l.holes member) (slice_index l.live member)) (range_with_len 0 l.member)) × (l.member ≤ l.member-end) × (l.member-end ≡ length l.holes)
