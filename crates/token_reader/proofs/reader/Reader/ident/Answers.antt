use Rattle.cov_grammar.proofs.Steps.{exits}
use Rattle.token_reader.proofs.Walks.{ident_reads, ident_fails}
use Rattle.token_reader.proofs.reader.Reader.ident.Goals as goal

pub returns-in_err-token : goal.returns-in_err-token
returns-in_err-token c = λ r. exits _ r _ _ _ c.from_residual.ensures.1 (ident_fails _ _ (c.in_err-token.ensures r))

pub returns : goal.returns
returns c = λ r. rw c.in_ok-name_of.ensures (ident_reads _ _ (c.in_ok-token.ensures r))
