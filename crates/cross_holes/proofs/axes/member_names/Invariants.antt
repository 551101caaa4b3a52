use Rattle.std.proofs.Common.{◌≡◌, take}
use Rattle.std.specs.List.{flat_map}
use Rattle.cross_holes.proofs.Names.{name_if}
use Rattle.cross_holes.proofs.axes.member_names.Given as goal

abbrev pub invariant-loop-bin : goal.invariant-loop-bin
invariant-loop-bin l = l.members ≡ flat_map name_if (take l.bin-index l.bins)
