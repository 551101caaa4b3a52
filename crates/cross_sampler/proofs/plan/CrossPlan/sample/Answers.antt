use Rattle.std.proofs.Common.{◌∙◌, sym}
use Rattle.cross_sampler.proofs.Hits.{begun, begun_idle}
use Rattle.cross_sampler.proofs.plan.CrossPlan.sample.Goals as goal

pub returns-then-not-holds-clause-takes : goal.returns-then-not-holds-clause-takes
returns-then-not-holds-clause-takes c = λ items all m are sample hit h.
    begun_idle items c.args.item.now c.args.axes.now all m c.args.env.now c.args.state.now c.begin.new.self c.args.counts.now sample (sym c.holds.ensures ∙ c.if-not-holds.true) c.begin.ensures.samples c.begin.ensures.stamps h

pub returns-clause-takes : goal.returns-clause-takes
returns-clause-takes c = λ items all m are sample hit h.
    begun items c.args.item.now c.args.axes.now all m c.args.env.now c.args.rows.now c.args.self.now.sizes c.args.state.now c.begin.new.self c.raise.new.state c.args.counts.now c.raise.new.counts are sample (sym c.holds.ensures ∙ c.if-not-holds.false) hit
    c.requires.fits.stamps c.begin.ensures.samples c.begin.ensures.stamps c.in_ok-raise.ensures.samples c.in_ok-raise.ensures.once h
