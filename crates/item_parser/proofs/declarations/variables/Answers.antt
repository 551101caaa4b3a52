use Rattle.cov_grammar.proofs.Steps.{exits}
use Rattle.item_parser.proofs.DeclWalks.{untyped, typed_names}
use Rattle.item_parser.proofs.declarations.variables.Goals as goal

pub returns-in_err-typ : goal.returns-in_err-typ
returns-in_err-typ c = exits _ _ _ _ _ c.from_residual.ensures.1 (untyped _ _ c.in_err-typ.ensures)

pub returns-in_err-names : goal.returns-in_err-names
returns-in_err-names c = exits _ _ _ _ _ c.from_residual-in_err-names.ensures.1 ((typed_names _ _ c.in_ok-typ.ensures).fails (c.in_err-names.ensures _))

pub returns : goal.returns
returns c = rw (c.in_ok-decls.ensures, c.as_slice.ensures) ((typed_names _ _ c.in_ok-typ.ensures).reads (c.in_ok-names.ensures _))
