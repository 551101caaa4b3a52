use Rattle.std.proofs.Common.{◌∙◌, get_or, length}
use Rattle.cross_sampler.specs.Numbers.{product_at}
use Rattle.cross_sampler.proofs.Hits.{raises_more, inside}
use Rattle.cross_sampler.proofs.sampling.add_by_scan.Goals as goal

pub add_once-requires-clause-inside : goal.add_once-requires-clause-inside
add_once-requires-clause-inside c =
    inside c.args.bins.now (product_at c.args.sizes.now (get_or c.args.numbers.now c.loop-number.number-index 0)) c.as_slice.result.now (length c.loop-number.stamps) (c.loop-number.invariant.stamps ∙ c.requires.bins)
    (c.as_slice.ensures.value ∙ c.in_ok-put_bins.ensures.bins)

pub loop-number-preserved : goal.loop-number-preserved
loop-number-preserved c =
    let i = c.loop-number.number-index in
    record {
      known = c.in_ok-put_bins.ensures.known;
      stamps = c.add_once.auto.stamps ∙ c.loop-number.invariant.stamps;
      counts = c.add_once.auto.counts ∙ c.loop-number.invariant.counts;
      raises = raises_more c.args.bins.now c.args.first c.args.env.now c.args.mark c.args.sizes.now c.args.numbers.now i c.as_slice.result.now c.args.stamps.now c.args.counts.now c.loop-number.stamps c.loop-number.counts c.add_once.new.stamps c.add_once.new.counts
          c.loop-number-test.true (c.as_slice.ensures.value ∙ c.in_ok-put_bins.ensures.bins) c.loop-number.invariant.raises c.add_once.ensures;
    }
