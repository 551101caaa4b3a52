use Rattle.std.proofs.Common.{◌∙◌, List, ℕ, sym, subst}
use Rattle.std.specs.Global.{Vec}
use Rattle.sampler.specs.Standing.{RowsStand}
use Rattle.sampler.proofs.Alone.{alone_taken}
use Rattle.sampler.proofs.instance.sample_instance.Goals as goal

pub returns-clause-taken : goal.returns-clause-taken
returns-clause-taken c = λ all m sample h.
    let points = c.in_ok-alone.ensures.taken all m sample h in
    let hit = c.in_ok-alone.ensures.hit all m sample h in
    let rows = subst (λ (rs : List (Vec ℕ)). RowsStand c.args.items.now c.args.chosen.now all m rs) (sym c.as_slice.ensures.value) hit in
    let crosses = c.in_ok-take_crosses.ensures.taken all m sample rows points.stand in
    record { stand = crosses.stand; outside = λ number o. crosses.outside number o ∙ points.outside number o }

pub returns-then-alone-clause-taken : goal.returns-then-alone-clause-taken
returns-then-alone-clause-taken c = λ all m sample h.
    alone_taken c.args.items.now c.args.plans.now c.args.chosen.now all m c.args.counts.now c.take_points.new.states.items c.take_points.new.counts
    (c.in_ok-alone.ensures.alone c.if-alone.true) (c.in_ok-alone.ensures.taken all m sample h)
