use Rattle.std.proofs.lemmas.Result.{err_from_is_err_and}
use Rattle.covd_commands.proofs.Parsing.{unelaborated}
use Rattle.covd_commands.proofs.record.read_text.Goals as goal

pub returns-in_err-design-clause-fault : goal.returns-in_err-design-clause-fault
returns-in_err-design-clause-fault c =
    let declares = c.in_ok-tree.ensures.tree in
    let p = err_from_is_err_and c.from_residual-in_err-design.result c.from_residual-in_err-design.ensures.1 in
    rw (p.1, p.2) (unelaborated c.args.text.now declares.tokens declares.lexes c.in_ok-tree.tree.decls declares.derives c.in_err-design.field-0.0 c.in_err-design.ensures)

pub returns-clause-declared : goal.returns-clause-declared
returns-clause-declared c = record { declares = c.in_ok-tree.ensures.tree; elaborates = c.in_ok-design.ensures }
