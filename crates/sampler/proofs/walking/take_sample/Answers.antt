use Rattle.std.proofs.Common.{◌≡◌, length, sym}
use Rattle.std.proofs.lemmas.Bool.{eqb-true}
use Rattle.sampler.proofs.Walks.{at_none}
use Rattle.sampler.proofs.walking.take_sample.Goals as goal

pub returns-then-is_empty-clause-at : goal.returns-then-is_empty-clause-at
returns-then-is_empty-clause-at c = λ before events few holds h.
    let none : length c.args.chosen.now ≡ 0 = eqb-true (length c.args.chosen.now) 0 (sym c.if-is_empty.ensures) in
    at_none c.args.rec.now c.args.instance c.args.items.now c.args.plans.now c.args.chosen.now before events c.args.args.now c.args.kept.now.states.items c.args.counts.now none few h
