use Rattle.std.proofs.Common.{None, false, refl, arith}
use Rattle.point_tables.proofs.Entering.{rest_more}
use Rattle.point_tables.proofs.entrances.first_at_unknown.Goals as goal

pub loop-k-preserved : goal.loop-k-preserved
loop-k-preserved c =
    rest_more c.args.entrances.now c.args.runs.now None c.args.from c.loop-k.k c.index-runs-k.result (record { bounded = false; low = 0; high = 0 }) c.index-runs-k.is (c.if-not-rests_unknown.ensures.none refl) c.loop-k-test.true c.requires.same
    (c.if-not-rests_unknown.ensures.out refl) c.loop-k.invariant

pub returns-clause-rest : goal.returns-clause-rest
returns-clause-rest c = λ j e r ge lt. c.loop-k.invariant j e r ge (omega (arith, lt, c.loop-k-test.false))
