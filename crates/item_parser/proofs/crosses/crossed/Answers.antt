use Rattle.std.proofs.Common.{refl}
use Rattle.cov_lexer.specs.declared.kind.Kind.TheVariants.{Comma}
use Rattle.std.proofs.Common.{[], ◌∷◌}
use Rattle.cov_grammar.specs.Bins.{ident}
use Rattle.cov_grammar.proofs.Steps.{exits, leads_parses}
use Rattle.token_reader.proofs.Chains.{more_always}
use Rattle.item_parser.proofs.GroupWalks.{no_first, no_comma_behind, no_second, two_names}
use Rattle.item_parser.proofs.crosses.crossed.Goals as goal

pub returns-in_err-first : goal.returns-in_err-first
returns-in_err-first c = λ r. exits _ r _ _ _ c.from_residual.ensures.1 (no_first _ _ (c.in_err-first.ensures r))

pub returns-in_err-at : goal.returns-in_err-at
returns-in_err-at c = λ r. exits _ r _ _ _ c.from_residual-in_err-at.ensures.1 (no_comma_behind _ _ (c.in_ok-first.ensures r) (c.in_err-at.ensures r))

pub returns-in_err-second : goal.returns-in_err-second
returns-in_err-second c = λ r. exits _ r _ _ _ c.from_residual-in_err-second.ensures.1 (no_second _ _ (c.in_ok-first.ensures r) (c.in_ok-at.ensures r) (c.in_err-second.ensures r))

pub returns : goal.returns
returns c = λ r. leads_parses _ (two_names _ _ (c.in_ok-first.ensures r) (c.in_ok-at.ensures r) (c.in_ok-second.ensures r))
    (more_always c.args.reader.tokens.now (ident c.args.reader.text.now c.args.reader.tokens.now) (Comma ∷ []) (rw (c.in_ok-push-2.ensures, c.in_ok-push.ensures, c.new-names.ensures) refl) _ c.in_ok-second.at c.more.result c.more.ensures r)
