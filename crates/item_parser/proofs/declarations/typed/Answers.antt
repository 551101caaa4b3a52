use Rattle.std.proofs.Common.{sym, ◌∙◌}
use Rattle.std.proofs.lemmas.List.{get_or_default}
use Rattle.item_parser.proofs.DeclWalks.{variables_more}
use Rattle.item_parser.proofs.declarations.typed.Goals as goal

pub loop-token-preserved : goal.loop-token-preserved
loop-token-preserved c = rw c.in_ok-add.ensures (variables_more _ _ _ _ _ _ _ _ (c.in_ok-shared.ensures ∙ c.put.ensures) c.loop-token.invariant c.loop-token-test.true
    (sym (get_or_default c.args.names.now c.loop-token.token-index _ _ c.loop-token-test.true)) c.in_ok-decl.ensures)
