use Rattle.std.proofs.Common.{Some, false, refl, get_or, arith}
use Rattle.point_tables.specs.declared.tables.Entrance.{Entrance}
use Rattle.point_tables.proofs.Entering.{rest_more, out_at}
use Rattle.point_tables.proofs.entrances.first_at.Goals as goal

pub loop-k-preserved : goal.loop-k-preserved
loop-k-preserved c = λ number is.
    let none : Entrance = record { bounded = false; low = 0; high = 0 } in
    rest_more c.args.entrances.now c.args.runs.now (Some number) c.args.from c.loop-k.k c.index-runs-k.result none c.index-runs-k.is (c.if-not-rests.ensures.none refl) c.loop-k-test.true c.requires.same
    (out_at c.args.key number (get_or c.args.entrances.now c.loop-k.k none) is (c.if-not-rests.ensures.out refl)) (c.loop-k.invariant number is)

pub returns-clause-rest : goal.returns-clause-rest
returns-clause-rest c = λ number is j e r ge lt. c.loop-k.invariant number is j e r ge (omega (arith, lt, c.loop-k-test.false))
