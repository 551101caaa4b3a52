use Rattle.std.proofs.Common.{List, sym, subst}
use Rattle.std.proofs.lemmas.Result.{err_from_is_err_and}
use Rattle.cov_lexer.specs.declared.token.Token.{Token}
use Rattle.cov_lexer.specs.Lexes.{Lexes}
use Rattle.covd_commands.proofs.Parsing.{unlexed, unparsed}
use Rattle.covd_commands.proofs.record.tree_of.Goals as goal

pub returns-in_err-tokens-clause-fault : goal.returns-in_err-tokens-clause-fault
returns-in_err-tokens-clause-fault c =
    let p = err_from_is_err_and c.from_residual.result c.from_residual.ensures.1 in
    rw (p.1, p.2) (unlexed c.args.text.now c.in_err-tokens.field-0.0 c.in_err-tokens.ensures.cause)

pub returns-in_err-tree-clause-fault : goal.returns-in_err-tree-clause-fault
returns-in_err-tree-clause-fault c =
    let lexes = subst (λ (tokens : List Token). Lexes c.args.text.now tokens) (sym c.deref.ensures.value) c.in_ok-tokens.ensures.read in
    let p = err_from_is_err_and c.from_residual-in_err-tree.result c.from_residual-in_err-tree.ensures.1 in
    rw (p.1, p.2) (unparsed c.args.text.now c.deref.result.now lexes c.in_err-tree.field-0.0 c.in_err-tree.ensures.cause)

pub returns-clause-tree : goal.returns-clause-tree
returns-clause-tree c =
    let lexes = subst (λ (tokens : List Token). Lexes c.args.text.now tokens) (sym c.deref.ensures.value) c.in_ok-tokens.ensures.read in
    record { tokens = c.deref.result.now; lexes = lexes; derives = c.in_ok-tree.ensures.read }
