use Rattle.std.proofs.Common.{sym, ◌∙◌}
use Rattle.cov_grammar.proofs.Steps.{same_word_reads, same_word_differs, same_word_fails}
use Rattle.cov_parser.proofs.CovergroupWalks.{pieces_equal, pieces_differ}
use Rattle.cov_parser.proofs.groups.same_word.Goals as goal

pub returns-in_default : goal.returns-in_default
returns-in_default c = λ r. same_word_fails _ _ _ _ r _ c.in_default.ensures.none

pub returns-then-ne : goal.returns-then-ne
returns-then-ne c = λ r. same_word_differs _ _ _ _ (c.in-Some.ensures.some r)
    (λ e. pieces_differ c.ne.result c.spelled.result.now c.args.spelling.now c.ne.ensures c.if-ne.true (c.spelled.ensures ∙ e))

pub returns : goal.returns
returns c = λ r. same_word_reads _ _ _ _ (c.in-Some.ensures.some r)
    (sym c.spelled.ensures ∙ pieces_equal c.ne.result c.spelled.result.now c.args.spelling.now c.ne.ensures c.if-ne.false)
