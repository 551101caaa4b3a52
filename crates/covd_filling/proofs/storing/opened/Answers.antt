use Rattle.std.proofs.Common.{ap, ◌∙◌}
use Rattle.std.specs.Arc.{arc_value}
use Rattle.cov_history.specs.History.{design_of}
use Rattle.covd_filling.proofs.storing.opened.Goals as goal

pub returns-clause-design : goal.returns-clause-design
returns-clause-design c =
    c.in_ok-planned.ensures ∙ (c.planned.ensures ∙ ((λ i. design_of (c.in_ok-store.ensures.opening i) (c.in_ok-store.ensures.entries i)) ∙ c.in_ok-shared.ensures.cases))

pub returns-clause-plain : goal.returns-clause-plain
returns-clause-plain c = record {
  opening = c.in_ok-store.ensures.opening ∙ c.in_ok-shared.ensures.cases;
  same = ap (design_of (arc_value c.args.design.now)) c.in_ok-store.ensures.entries;
}
