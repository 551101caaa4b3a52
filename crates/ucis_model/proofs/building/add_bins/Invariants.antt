use Rattle.std.proofs.Common.{◌≡◌, ◌+◌, ◌<◌, drop, length}
use Rattle.ucis_model.specs.Nodes.{with_bins}
use Rattle.ucis_model.proofs.building.add_bins.Given as goal

abbrev pub invariant-loop-bin : goal.invariant-loop-bin
invariant-loop-bin l =
    (with_bins l.parent l.at_least l.next (drop l.bin-index l.bins) l.nodes ≡ with_bins l.parent l.at_least l.first l.bins l.initial.nodes)
    × (l.next ≡ l.first + l.bin-index)
    × (l.parent < length l.nodes)
