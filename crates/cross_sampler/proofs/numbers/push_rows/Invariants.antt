use Rattle.std.proofs.Common.{◌≡◌, ◌++◌, take}
use Rattle.cross_sampler.specs.Numbers.{extended}
use Rattle.cross_sampler.proofs.numbers.push_rows.Given as goal

abbrev pub invariant-loop-number : goal.invariant-loop-number
invariant-loop-number l = l.out.items ≡ l.initial.out.items ++ extended l.size l.hit (take l.number-index l.numbers)
