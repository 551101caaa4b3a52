use Rattle.std.proofs.Common.{List, ap, ◌∙◌}
use Rattle.cross_holes.specs.declared.axes.Axis.{Axis}
use Rattle.cross_holes.specs.Projected.{cross_with, projected, alone}
use Rattle.cross_holes.proofs.holes.holes_of.Goals as goal

pub returns-clause-projected : goal.returns-clause-projected
returns-clause-projected c =
    c.in_ok-found.ensures.projected
    ∙ ap (λ (axes : List Axis). projected (cross_with axes c.args.nodes.now c.args.item.now c.args.live.now c.args.holes.now)) (c.as_slice.ensures ∙ c.in_ok-axes.ensures)

pub returns-clause-alone : goal.returns-clause-alone
returns-clause-alone c =
    c.in_ok-found.ensures.alone
    ∙ ap (λ (axes : List Axis). alone (cross_with axes c.args.nodes.now c.args.item.now c.args.live.now c.args.holes.now)) (c.as_slice.ensures ∙ c.in_ok-axes.ensures)
