use Rattle.cov_grammar.specs.Expressions.{snoc}
use Rattle.token_reader.proofs.Chains.{unput}
use Rattle.item_parser.proofs.declarations.NameListItem.read.Goals as goal

pub returns-in_err-name : goal.returns-in_err-name
returns-in_err-name c = unput snoc c.args.list.now c.args.list.now _ c.from_residual.ensures.1 (c.in_err-name.ensures _)

pub returns : goal.returns
returns c = (_, c.in_ok-name.ensures _, c.in_ok-push.ensures)
