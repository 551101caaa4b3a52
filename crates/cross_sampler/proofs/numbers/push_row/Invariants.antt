use Rattle.std.proofs.Common.{◌≡◌, ◌++◌, ◌+◌, take}
use Rattle.std.specs.Prelude.{map}
use Rattle.cross_sampler.specs.Numbers.{below}
use Rattle.cross_sampler.proofs.numbers.push_row.Given as goal

abbrev pub invariant-loop-bin : goal.invariant-loop-bin
invariant-loop-bin l = l.out.items ≡ l.initial.out.items ++ map (λ bin. l.start + bin) (below l.size (take l.bin-index l.hit))
