use Rattle.wildcard_bins.proofs.ranges.moved.Goals as goal

pub returns : goal.returns
returns c = λ i. (c.plus.ensures i, c.plus-2.ensures i)
