use Rattle.std.proofs.Common.{◌∙◌}
use Rattle.cross_sampler.specs.Once.{guard_at}
use Rattle.cross_sampler.proofs.Marks.{once_more}
use Rattle.cross_sampler.proofs.once.add_once.Goals as goal

pub loop-bin-preserved : goal.loop-bin-preserved
loop-bin-preserved c = record {
  stamps = c.add_one.auto.stamps ∙ c.loop-bin.invariant.stamps;
  counts = c.add_one.auto.counts ∙ c.loop-bin.invariant.counts;
  once = λ room. once_more (guard_at c.args.bins.now c.args.env.now) c.args.first c.args.mark c.args.hit.now c.args.stamps.now c.args.counts.now c.loop-bin.stamps c.loop-bin.counts c.add_one.new.stamps c.add_one.new.counts
      c.loop-bin.bin-index c.loop-bin-test.true room (c.loop-bin.invariant.once room) c.add_one.ensures;
}
