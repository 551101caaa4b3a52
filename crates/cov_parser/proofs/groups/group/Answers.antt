use Rattle.cov_grammar.proofs.Steps.{exits}
use Rattle.token_reader.proofs.Walks.{ident_reads, ident_fails}
use Rattle.cov_parser.proofs.CovergroupWalks.{no_group, group_unnamed, group_named, group_unformal, group_eventless, head_read, group_open, group_stops, group_ends}
use Rattle.cov_parser.proofs.groups.group.Goals as goal

pub returns-in_err-covergroup : goal.returns-in_err-covergroup
returns-in_err-covergroup c = exits _ _ _ _ _ c.from_residual.ensures.1 (no_group _ _ (c.in_err-covergroup.ensures _))

pub returns-in_err-token : goal.returns-in_err-token
returns-in_err-token c = exits _ _ _ _ _ c.from_residual-in_err-token.ensures.1 (group_unnamed _ _ (c.in_ok-covergroup.ensures _) (ident_fails _ _ (c.in_err-token.ensures _)))

pub returns-in_err-formals : goal.returns-in_err-formals
returns-in_err-formals c = exits _ _ _ _ _ c.from_residual-in_err-formals.ensures.1 (group_unformal _ _ (group_named _ _ (c.in_ok-covergroup.ensures _) (ident_reads _ _ (c.in_ok-token.ensures _))) c.in_err-formals.ensures)

pub returns-in_err-event : goal.returns-in_err-event
returns-in_err-event c = exits _ _ _ _ _ c.from_residual-in_err-event.ensures.1 (group_eventless _ _ (group_named _ _ (c.in_ok-covergroup.ensures _) (ident_reads _ _ (c.in_ok-token.ensures _))) c.in_ok-formals.ensures c.in_err-event.ensures)

pub returns-in_err-at : goal.returns-in_err-at
returns-in_err-at c = exits _ _ _ _ _ c.from_residual-in_err-at.ensures.1 (group_open _ _ (group_named _ _ (c.in_ok-covergroup.ensures _) (ident_reads _ _ (c.in_ok-token.ensures _))) (head_read _ _ c.in_ok-formals.ensures c.in_ok-event.ensures) (c.in_err-at.ensures _))

pub returns-in_err-members : goal.returns-in_err-members
returns-in_err-members c = exits _ _ _ _ _ c.from_residual-in_err-members.ensures.1 (group_stops _ _ (group_named _ _ (c.in_ok-covergroup.ensures _) (ident_reads _ _ (c.in_ok-token.ensures _))) (head_read _ _ c.in_ok-formals.ensures c.in_ok-event.ensures) (c.in_ok-at.ensures _) c.in_err-members.ensures)

pub returns-in_err-after : goal.returns-in_err-after
returns-in_err-after c = exits _ _ _ _ _ c.from_residual-in_err-after.ensures.1 ((group_ends _ _ (group_named _ _ (c.in_ok-covergroup.ensures _) (ident_reads _ _ (c.in_ok-token.ensures _))) (head_read _ _ c.in_ok-formals.ensures c.in_ok-event.ensures) (c.in_ok-at.ensures _) c.in_ok-members.ensures).fails (c.in_err-after.ensures _))

pub returns : goal.returns
returns c = rw (c.in_ok-alone.ensures, c.of-group.ensures, c.in_ok-name.ensures)
    ((group_ends _ _ (group_named _ _ (c.in_ok-covergroup.ensures _) (ident_reads _ _ (c.in_ok-token.ensures _))) (head_read _ _ c.in_ok-formals.ensures c.in_ok-event.ensures) (c.in_ok-at.ensures _) c.in_ok-members.ensures).reads (c.in_ok-after.ensures _))
