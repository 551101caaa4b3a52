use Rattle.std.proofs.Common.{[]}
use Rattle.cov_grammar.proofs.Steps.{exits}
use Rattle.item_parser.proofs.DeclWalks.{names_none, names_break, names_close}
use Rattle.item_parser.proofs.declarations.names.Goals as goal

pub returns-in_err-first : goal.returns-in_err-first
returns-in_err-first c = λ r. exits _ r _ _ _ c.from_residual.ensures.1 (names_none [] _ (c.in_err-first.ensures r))

pub returns-in_err-names : goal.returns-in_err-names
returns-in_err-names c = λ r. exits _ r _ _ _ c.from_residual-in_err-names.ensures.1 (names_break [] _ (c.in_ok-first.ensures r) (c.in_err-names.ensures r))

pub returns-in_err-after : goal.returns-in_err-after
returns-in_err-after c = λ r. exits _ r _ _ _ c.from_residual-in_err-after.ensures.1 ((names_close [] _ (c.in_ok-first.ensures r) (c.in_ok-names.ensures r)).fails (c.in_err-after.ensures r))

pub returns : goal.returns
returns c = λ r. (names_close [] _ (c.in_ok-first.ensures r) (c.in_ok-names.ensures r)).reads (c.in_ok-after.ensures r)
