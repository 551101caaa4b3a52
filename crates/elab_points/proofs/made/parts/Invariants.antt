use Rattle.std.proofs.Common.{◌≡◌, ◌++◌, length}
use Rattle.elab_bins.specs.Made.{part_bins}
use Rattle.elab_points.proofs.made.parts.Given as goal

abbrev pub invariant-loop-set : goal.invariant-loop-set
invariant-loop-set l = l.bins ++ part_bins l.head (length l.bins) l.set-iterator.rest.items ≡ part_bins l.head 0 l.initial.set-iterator.rest.items
