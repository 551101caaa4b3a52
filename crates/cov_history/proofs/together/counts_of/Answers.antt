use Rattle.cov_counting.proofs.Bins.{one}
use Rattle.cov_history.proofs.Counting.{tally_of}
use Rattle.cov_history.proofs.together.counts_of.Goals as goal

pub returns : goal.returns
returns c = one c.args.design.now c.args.content.now _ _ c.in_ok-counts.ensures (tally_of c.args.design.now c.args.content.now)
