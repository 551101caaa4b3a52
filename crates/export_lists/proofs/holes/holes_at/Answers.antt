use Rattle.std.proofs.Common.{List, slice_get, ap, ◌∙◌}
use Rattle.ucis_model.specs.declared.node.Node.{Node}
use Rattle.cross_holes.specs.Projected.{cross_of, projected, alone}
use Rattle.export_lists.proofs.holes.holes_at.Goals as goal

pub returns-clause-projected : goal.returns-clause-projected
returns-clause-projected c =
    c.in_ok-found.ensures.projected
    ∙ ap (λ (nodes : List Node). projected (cross_of nodes c.args.items.now (slice_get c.args.items.now c.args.place) c.args.live.now c.args.holes.now)) c.nodes.ensures

pub returns-clause-alone : goal.returns-clause-alone
returns-clause-alone c =
    c.in_ok-found.ensures.alone
    ∙ ap (λ (nodes : List Node). alone (cross_of nodes c.args.items.now (slice_get c.args.items.now c.args.place) c.args.live.now c.args.holes.now)) c.nodes.ensures
