use Rattle.cov_grammar.proofs.Steps.{exits}
use Rattle.token_reader.proofs.Walks.{ident_reads}
use Rattle.item_parser.proofs.MemberWalks.{no_label, label_begun, labelled_by}
use Rattle.item_parser.proofs.items.maybe_label.Goals as goal

pub returns-in_default : goal.returns-in_default
returns-in_default c = λ r. rw c.of.ensures (no_label _ _ c.in_default.ensures.none)

pub returns-in_err-after : goal.returns-in_err-after
returns-in_err-after c = λ r. exits _ r _ _ _ c.from_residual.ensures.1 (label_begun _ _ (ident_reads _ _ (c.in-Some.ensures.some r)) (c.in_err-after.ensures r))

pub returns : goal.returns
returns c = λ r. rw (c.of-2.ensures, c.in_ok-name.ensures) (labelled_by _ _ (ident_reads _ _ (c.in-Some.ensures.some r)) (c.in_ok-after.ensures r))
