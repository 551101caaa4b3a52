use Rattle.std.proofs.Common.{◌<◌, length, rules}
use Rattle.cov_base.specs.Sets.{least}
use Rattle.cov_base.proofs.Finds.{lows_ascend}
use Rattle.cov_base.proofs.Skips.{reached}
use Rattle.cov_base.proofs.sets.merge.reaching.Goals as goal

pub place_of-requires-clause-ascends : goal.place_of-requires-clause-ascends
place_of-requires-clause-ascends c = lows_ascend least c.args.holes.now c.requires.holes.normal

pub returns : goal.returns
returns c =
    let some : 0 < length c.args.intervals.now = search rules in
    reached c.args.intervals.now c.args.holes.now c.index-intervals-0.result c.place_of.result c.requires.intervals c.requires.holes some c.index-intervals-0.is c.place_of.ensures.within c.place_of.ensures.below
