use Rattle.cov_grammar.proofs.Steps.{exits}
use Rattle.item_parser.proofs.MemberWalks.{edge_unnamed, edge_iff}
use Rattle.item_parser.proofs.events.edge.Goals as goal

pub returns-in_err-name : goal.returns-in_err-name
returns-in_err-name c =
    let s = c.edge_word-kind.ensures c.args.room in
    exits _ _ _ _ _ c.from_residual.ensures.1 (edge_unnamed _ _ s.1 (c.in_err-name.ensures _))

pub returns-in_err-guard : goal.returns-in_err-guard
returns-in_err-guard c =
    let s = c.edge_word-kind.ensures c.args.room in
    exits _ _ _ _ _ c.from_residual-in_err-guard.ensures.1 ((edge_iff _ _ s.1 (c.in_ok-name.ensures _)).fails c.in_err-guard.ensures)

pub returns : goal.returns
returns c = let s = c.edge_word-kind.ensures c.args.room in
    rw (c.of.ensures, c.put-guard.ensures) (rw s.2 ((edge_iff _ _ s.1 (c.in_ok-name.ensures _)).reads c.in_ok-guard.ensures))
