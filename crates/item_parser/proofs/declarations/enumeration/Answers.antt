use Rattle.cov_grammar.proofs.Steps.{exits}
use Rattle.item_parser.proofs.DeclWalks.{no_typedef, enum_body_fails, enum_unnamed, enum_ends, no_enum_word, body_baseless, body_unopened, body_constantless, body_closes}
use Rattle.item_parser.proofs.declarations.enumeration.Goals as goal

pub returns-in_err-typedef : goal.returns-in_err-typedef
returns-in_err-typedef c = exits _ _ _ _ _ c.from_residual.ensures.1 (no_typedef _ _ (c.in_err-typedef.ensures _))

pub returns-in_err-typed : goal.returns-in_err-typed
returns-in_err-typed c = exits _ _ _ _ _ c.from_residual-in_err-typed.ensures.1 (enum_body_fails _ _ (c.in_ok-typedef.ensures _) (no_enum_word _ _ (c.in_err-typed.ensures _)))

pub returns-in_err-base : goal.returns-in_err-base
returns-in_err-base c = exits _ _ _ _ _ c.from_residual-in_err-base.ensures.1 (enum_body_fails _ _ (c.in_ok-typedef.ensures _) (body_baseless _ _ (c.in_ok-typed.ensures _) c.in_err-base.ensures))

pub returns-in_err-opened : goal.returns-in_err-opened
returns-in_err-opened c = exits _ _ _ _ _ c.from_residual-in_err-opened.ensures.1 (enum_body_fails _ _ (c.in_ok-typedef.ensures _) (body_unopened _ _ (c.in_ok-typed.ensures _) c.in_ok-base.ensures (c.in_err-opened.ensures _)))

pub returns-in_err-names : goal.returns-in_err-names
returns-in_err-names c = exits _ _ _ _ _ c.from_residual-in_err-names.ensures.1 (enum_body_fails _ _ (c.in_ok-typedef.ensures _) (body_constantless _ _ (c.in_ok-typed.ensures _) c.in_ok-base.ensures (c.in_ok-opened.ensures _) c.in_err-names.ensures))

pub returns-in_err-closed : goal.returns-in_err-closed
returns-in_err-closed c = exits _ _ _ _ _ c.from_residual-in_err-closed.ensures.1 (enum_body_fails _ _ (c.in_ok-typedef.ensures _) ((body_closes _ _ (c.in_ok-typed.ensures _) c.in_ok-base.ensures (c.in_ok-opened.ensures _) c.in_ok-names.ensures).fails (c.in_err-closed.ensures _)))

pub returns-in_err-name : goal.returns-in_err-name
returns-in_err-name c = exits _ _ _ _ _ c.from_residual-in_err-name.ensures.1 (enum_unnamed _ _ (c.in_ok-typedef.ensures _) ((body_closes _ _ (c.in_ok-typed.ensures _) c.in_ok-base.ensures (c.in_ok-opened.ensures _) c.in_ok-names.ensures).reads (c.in_ok-closed.ensures _)) (c.in_err-name.ensures _))

pub returns-in_err-after : goal.returns-in_err-after
returns-in_err-after c = exits _ _ _ _ _ c.from_residual-in_err-after.ensures.1 ((enum_ends _ _ (c.in_ok-typedef.ensures _) ((body_closes _ _ (c.in_ok-typed.ensures _) c.in_ok-base.ensures (c.in_ok-opened.ensures _) c.in_ok-names.ensures).reads (c.in_ok-closed.ensures _)) (c.in_ok-name.ensures _)).fails (c.in_err-after.ensures _))

pub returns : goal.returns
returns c = rw (c.in_ok-alone.ensures, c.of-enumeration.ensures, c.put.ensures) ((enum_ends _ _ (c.in_ok-typedef.ensures _) ((body_closes _ _ (c.in_ok-typed.ensures _) c.in_ok-base.ensures (c.in_ok-opened.ensures _) c.in_ok-names.ensures).reads (c.in_ok-closed.ensures _)) (c.in_ok-name.ensures _)).reads (c.in_ok-after.ensures _))
