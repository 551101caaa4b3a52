use Rattle.cov_grammar.proofs.Steps.{exits}
use Rattle.item_parser.proofs.GroupWalks.{point_unnamed, point_untested, point_guards, point_ends, point_steps}
use Rattle.item_parser.proofs.points.point.Goals as goal

pub returns-in_err-at : goal.returns-in_err-at
returns-in_err-at c = exits _ _ _ _ _ c.from_residual.ensures.1 (point_ends _ _ c.args.start c.args.label (point_unnamed _ _ (c.in_err-at.ensures _)))

pub returns-in_err-expr : goal.returns-in_err-expr
returns-in_err-expr c = exits _ _ _ _ _ c.from_residual-in_err-expr.ensures.1 (point_ends _ _ c.args.start c.args.label (point_untested _ _ (c.in_ok-at.ensures _) c.in_err-expr.ensures))

pub returns-in_err-guard : goal.returns-in_err-guard
returns-in_err-guard c = exits _ _ _ _ _ c.from_residual-in_err-guard.ensures.1
    (point_ends _ _ c.args.start c.args.label ((point_guards _ _ (c.in_ok-at.ensures _) c.in_ok-expr.ensures).fails c.in_err-guard.ensures))

pub returns-in_err-options : goal.returns-in_err-options
returns-in_err-options c = exits _ _ _ _ _ c.from_residual-in_err-options.ensures.1
    ((point_steps _ _ c.args.start c.args.label ((point_guards _ _ (c.in_ok-at.ensures _) c.in_ok-expr.ensures).reads c.in_ok-guard.ensures)).fails c.in_err-options.ensures)

pub returns : goal.returns
returns c = rw (c.of.ensures, c.put.ensures, c.put-2.ensures, c.put-3.ensures) ((point_steps _ _ c.args.start c.args.label ((point_guards _ _ (c.in_ok-at.ensures _) c.in_ok-expr.ensures).reads c.in_ok-guard.ensures)).reads c.in_ok-options.ensures)
