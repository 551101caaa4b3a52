use Rattle.cov_grammar.proofs.Steps.{exits}
use Rattle.item_parser.proofs.GroupWalks.{cross_unnamed, cross_nameless, cross_guards, cross_ends, cross_steps}
use Rattle.item_parser.proofs.crosses.cross.Goals as goal

pub returns-in_err-at : goal.returns-in_err-at
returns-in_err-at c = exits _ _ _ _ _ c.from_residual.ensures.1 (cross_ends _ _ c.args.start c.args.label (cross_unnamed _ _ (c.in_err-at.ensures _)))

pub returns-in_err-points : goal.returns-in_err-points
returns-in_err-points c = exits _ _ _ _ _ c.from_residual-in_err-points.ensures.1 (cross_ends _ _ c.args.start c.args.label (cross_nameless _ _ (c.in_ok-at.ensures _) (c.in_err-points.ensures _)))

pub returns-in_err-guard : goal.returns-in_err-guard
returns-in_err-guard c = exits _ _ _ _ _ c.from_residual-in_err-guard.ensures.1
    (cross_ends _ _ c.args.start c.args.label ((cross_guards _ _ (c.in_ok-at.ensures _) (c.in_ok-points.ensures _)).fails c.in_err-guard.ensures))

pub returns-in_err-options : goal.returns-in_err-options
returns-in_err-options c = exits _ _ _ _ _ c.from_residual-in_err-options.ensures.1
    ((cross_steps _ _ c.args.start c.args.label ((cross_guards _ _ (c.in_ok-at.ensures _) (c.in_ok-points.ensures _)).reads c.in_ok-guard.ensures)).fails c.in_err-options.ensures)

pub returns : goal.returns
returns c = rw (c.of.ensures, c.put.ensures, c.put-2.ensures) ((cross_steps _ _ c.args.start c.args.label ((cross_guards _ _ (c.in_ok-at.ensures _) (c.in_ok-points.ensures _)).reads c.in_ok-guard.ensures)).reads c.in_ok-options.ensures)
