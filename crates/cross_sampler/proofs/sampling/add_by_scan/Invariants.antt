use Rattle.std.proofs.Common.{◌≡◌, length, take}
use Rattle.cross_sampler.specs.Known.{AreKnown}
use Rattle.cross_sampler.specs.Standing.{Raises, visited}
use Rattle.cross_sampler.proofs.sampling.add_by_scan.Given as goal

abbrev pub invariant-loop-number : goal.invariant-loop-number
invariant-loop-number l = record {
  known : AreKnown l.sizes l.bins l.known;
  stamps : length l.stamps ≡ length l.initial.stamps;
  counts : length l.counts ≡ length l.initial.counts;
  raises : Raises l.bins l.first l.env l.mark (visited l.bins l.sizes (take l.number-index l.numbers)) l.initial.stamps l.initial.counts l.stamps l.counts;
}
