use Rattle.std.proofs.Common.{subst}
use Rattle.cov_grammar.specs.Parses.{Parses}
use Rattle.cov_grammar.specs.Groups.{point, cross}
use Rattle.cov_grammar.proofs.Steps.{exits, leads_parses}
use Rattle.item_parser.proofs.MemberWalks.{unlabelled, item_point, item_cross}
use Rattle.item_parser.proofs.items.item.Goals as goal

pub returns-in_err-label : goal.returns-in_err-label
returns-in_err-label c = exits _ _ _ _ _ c.from_residual.ensures.1 (unlabelled _ _ (c.in_err-label.ensures _))

pub returns-in-Some : goal.returns-in-Some
returns-in-Some c = leads_parses c.cross.result (item_cross _ _ (c.in_ok-label.ensures _) c.in-Some.ensures.here)
    (subst (λ s. Parses (cross c.args.reader.text.now c.args.reader.tokens.now s c.in_ok-label.label) c.args.room c.in_ok-label.«at» c.cross.result) c.start_at-start.ensures c.cross.ensures)

pub returns : goal.returns
returns c = leads_parses c.point.result (item_point _ _ (c.in_ok-label.ensures _) c.in_default.ensures.none)
    (subst (λ s. Parses (point c.args.reader.text.now c.args.reader.tokens.now s c.in_ok-label.label) c.args.room c.in_ok-label.«at» c.point.result) c.start_at-start.ensures c.point.ensures)
