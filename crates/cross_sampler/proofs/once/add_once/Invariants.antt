use Rattle.std.proofs.Common.{◌≡◌, length, take}
use Rattle.cross_sampler.specs.Once.{Once, HasRoom, guard_at}
use Rattle.cross_sampler.proofs.once.add_once.Given as goal

abbrev pub invariant-loop-bin : goal.invariant-loop-bin
invariant-loop-bin l = record {
  stamps : length l.stamps ≡ length l.initial.stamps;
  counts : length l.counts ≡ length l.initial.counts;
  once : HasRoom l.first l.mark l.initial.stamps l.initial.counts → Once (guard_at l.bins l.env) l.first l.mark (take l.bin-index l.hit) l.initial.stamps l.initial.counts l.stamps l.counts;
}
