use Rattle.std.proofs.Common.{List, sym, subst}
use Rattle.std.proofs.lemmas.Result.{err_from_is_err_and}
use Rattle.cov_lexer.specs.declared.token.Token.{Token}
use Rattle.cov_lexer.specs.Lexes.{Lexes}
use Rattle.cov_compile.proofs.Steps.{unlexed, unparsed, elaborated, unelaborated}
use Rattle.cov_compile.proofs.compiling.compile.Goals as goal

pub returns-in_err-tokens : goal.returns-in_err-tokens
returns-in_err-tokens c =
    let p = err_from_is_err_and c.from_residual.result c.from_residual.ensures.1 in
    rw (p.1, p.2) (unlexed c.args.text.now c.in_err-tokens.field-0.0 c.in_err-tokens.ensures.cause)

pub returns-in_err-tree : goal.returns-in_err-tree
returns-in_err-tree c =
    let lexes = subst (λ (tokens : List Token). Lexes c.args.text.now tokens) (sym c.deref.ensures.value) c.in_ok-tokens.ensures.read in
    let p = err_from_is_err_and c.from_residual-in_err-tree.result c.from_residual-in_err-tree.ensures.1 in
    rw (p.1, p.2) (unparsed c.args.text.now c.deref.result.now lexes c.in_err-tree.field-0.0 c.in_err-tree.ensures.cause)

pub returns-in_err-design : goal.returns-in_err-design
returns-in_err-design c =
    let lexes = subst (λ (tokens : List Token). Lexes c.args.text.now tokens) (sym c.deref.ensures.value) c.in_ok-tokens.ensures.read in
    let p = err_from_is_err_and c.from_residual-in_err-design.result c.from_residual-in_err-design.ensures.1 in
    rw (p.1, p.2) (unelaborated c.args.text.now c.deref.result.now lexes c.in_ok-tree.tree.decls c.in_ok-tree.ensures.read c.in_err-design.field-0.0 c.in_err-design.ensures)

pub returns : goal.returns
returns c =
    let lexes = subst (λ (tokens : List Token). Lexes c.args.text.now tokens) (sym c.deref.ensures.value) c.in_ok-tokens.ensures.read in
    elaborated c.args.text.now c.deref.result.now lexes c.in_ok-tree.tree.decls c.in_ok-tree.ensures.read c.in_ok-design.design c.in_ok-design.ensures
