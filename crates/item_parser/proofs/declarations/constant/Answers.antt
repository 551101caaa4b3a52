use Rattle.cov_grammar.proofs.Steps.{exits}
use Rattle.item_parser.proofs.DeclWalks.{constant_unnamed, constant_values}
use Rattle.item_parser.proofs.declarations.constant.Goals as goal

pub returns-in_err-name : goal.returns-in_err-name
returns-in_err-name c = exits _ _ _ _ _ c.from_residual.ensures.1 (constant_unnamed _ _ (c.in_err-name.ensures _))

pub returns-in_err-value : goal.returns-in_err-value
returns-in_err-value c = exits _ _ _ _ _ c.from_residual-in_err-value.ensures.1 ((constant_values _ _ (c.in_ok-name.ensures _)).fails c.in_err-value.ensures)

pub returns : goal.returns
returns c = rw (c.of.ensures, c.put.ensures) ((constant_values _ _ (c.in_ok-name.ensures _)).reads c.in_ok-value.ensures)
