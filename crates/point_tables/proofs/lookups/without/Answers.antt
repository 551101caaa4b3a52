use Rattle.point_tables.proofs.Keyed.{left_of}
use Rattle.point_tables.proofs.lookups.without.Goals as goal

pub returns : goal.returns
returns c = λ key fits. left_of c.args.least c.plus-last.result c.in_ok-whole.whole c.in_ok-listed.listed c.args.ranges.now c.in_ok-rest.rest key c.plus-last.ensures fits
    c.in_ok-whole.ensures.numbers c.in_ok-listed.ensures.numbers c.in_ok-rest.ensures.numbers
