use Rattle.std.proofs.Common.{◌≡◌, take}
use Rattle.value_index.specs.Sizes.{all_ends}
use Rattle.value_index.proofs.build.ends.Given as goal

abbrev pub invariant-loop-set : goal.invariant-loop-set
invariant-loop-set l = l.cuts.items ≡ all_ends (take l.set-index l.sets)
