use Rattle.std.proofs.Common.{List, ℕ, sym, subst}
use Rattle.cross_sampler.specs.declared.plan.Table.{Table}
use Rattle.cross_sampler.specs.Once.{guard_at}
use Rattle.cross_sampler.specs.Plans.{IsTable}
use Rattle.cross_sampler.specs.Standing.{Raises}
use Rattle.cross_sampler.proofs.Marks.{once_none}
use Rattle.cross_sampler.proofs.Hits.{none_hit}
use Rattle.cross_sampler.proofs.plan.CrossPlan.raise.Goals as goal

pub returns-in-Nothing-clause-once : goal.returns-in-Nothing-clause-once
returns-in-Nothing-clause-once c =
    let bins = c.args.item.now.bins in
    let first = c.args.item.now.first_bin in
    let mark = c.args.state.now.samples in
    let stamps = c.args.state.now.stamps.items in
    let counts = c.args.counts.now in
    let none = subst (λ (t : Table). IsTable c.args.self.now.sizes c.args.self.now.weights bins t) c.in-Nothing.is c.requires.plan.table in
    subst (λ (hit : List ℕ). Raises bins first c.args.env.now mark hit stamps counts stamps counts) (sym (none_hit bins c.args.self.now.sizes c.args.axes.now c.args.rows.now c.requires.axes none))
    (λ room. once_none (guard_at bins c.args.env.now) first mark stamps counts)
