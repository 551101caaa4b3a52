use Rattle.std.proofs.Common.{sym, ◌∙◌}
use Rattle.point_sampler.proofs.Standing.{stays, remembered, counts_stand, row_stands}
use Rattle.point_sampler.proofs.plan.PointPlan.sample.Goals as goal

pub returns-then-not-holds-clause-stands : goal.returns-then-not-holds-clause-stands
returns-then-not-holds-clause-stands c = λ all m sample h.
    stays c.args.item.now c.args.expr.now c.args.self.now all m c.args.env.now sample (sym c.holds.ensures ∙ c.if-not-holds.true) c.args.state.now c.args.counts.now h

pub returns-clause-stands : goal.returns-clause-stands
returns-clause-stands c = λ all m sample h. record {
  remembers = remembered c.args.item.now c.args.expr.now c.args.self.now all m c.args.env.now sample c.eval-value.result c.eval-value.ensures (sym c.holds.ensures ∙ c.if-not-holds.false)
      c.args.state.now c.sample_value.new.state h.remembers c.in_ok-sample_value.ensures.remembers;
  counted = counts_stand c.args.item.now c.args.expr.now c.args.self.now all m c.args.env.now sample c.eval-value.result c.eval-value.ensures (sym c.holds.ensures ∙ c.if-not-holds.false)
      c.args.counts.now c.sample_value.new.counts c.sample_value.new.row.items (c.in_ok-sample_value.ensures.taken _ h.remembers) h.counted;
}

pub returns-clause-row : goal.returns-clause-row
returns-clause-row c = λ all m sample h.
    row_stands c.args.item.now c.args.expr.now c.args.self.now all m c.args.env.now sample c.eval-value.result c.eval-value.ensures (sym c.holds.ensures ∙ c.if-not-holds.false)
    c.args.counts.now c.sample_value.new.counts c.sample_value.new.row.items (c.in_ok-sample_value.ensures.taken _ h.remembers)
