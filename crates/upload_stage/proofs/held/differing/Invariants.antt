use Rattle.std.proofs.Common.{◌≡◌, ◌+◌, drop}
use Rattle.upload_stage.specs.Places.{first_differing, places_of}
use Rattle.upload_stage.proofs.held.differing.Given as goal

abbrev pub invariant-loop-i : goal.invariant-loop-i
invariant-loop-i l = first_differing (l.offset + l.i) (drop (l.offset + l.i) (places_of l.marks l.held l.len)) (drop l.i l.bytes) ≡ first_differing l.offset (drop l.offset (places_of l.marks l.held l.len)) l.bytes
