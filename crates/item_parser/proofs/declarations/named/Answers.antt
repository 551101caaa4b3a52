use Rattle.cov_grammar.proofs.Steps.{exits}
use Rattle.item_parser.proofs.DeclWalks.{no_first_name, no_second_name, named_more_fails, named_ends, instance_no_new, instance_unmade, instance_ends}
use Rattle.item_parser.proofs.declarations.named.Goals as goal

pub returns-in_err-first : goal.returns-in_err-first
returns-in_err-first c = exits _ _ _ _ _ c.from_residual.ensures.1 (no_first_name _ _ (c.in_err-first.ensures _))

pub returns-in_err-second : goal.returns-in_err-second
returns-in_err-second c = exits _ _ _ _ _ c.from_residual-in_err-second.ensures.1 (no_second_name _ _ (c.in_ok-first.ensures _) (c.in_err-second.ensures _))

pub returns-in_err-names : goal.returns-in_err-names
returns-in_err-names c = exits _ _ _ _ _ c.from_residual-in_err-names.ensures.1 (named_more_fails _ _ (c.in_ok-first.ensures _) (c.in_ok-second.ensures _) c.in_default.ensures.none (c.in_err-names.ensures _))

pub returns-in_err-after : goal.returns-in_err-after
returns-in_err-after c = exits _ _ _ _ _ c.from_residual-in_err-after.ensures.1 ((named_ends _ _ (c.in_ok-first.ensures _) (c.in_ok-second.ensures _) c.in_default.ensures.none (c.in_ok-names.ensures _)).fails (c.in_err-after.ensures _))

pub returns-in_default : goal.returns-in_default
returns-in_default c = rw (c.in_ok-decls.ensures, c.as_slice.ensures) ((named_ends _ _ (c.in_ok-first.ensures _) (c.in_ok-second.ensures _) c.in_default.ensures.none (c.in_ok-names.ensures _)).reads (c.in_ok-after.ensures _))

pub returns-in_err-made : goal.returns-in_err-made
returns-in_err-made c = exits _ _ _ _ _ c.from_residual-in_err-made.ensures.1 (instance_no_new _ _ (c.in_ok-first.ensures _) (c.in_ok-second.ensures _) (c.in-Some.ensures.some _) (c.in_err-made.ensures _))

pub returns-in_err-args : goal.returns-in_err-args
returns-in_err-args c = exits _ _ _ _ _ c.from_residual-in_err-args.ensures.1 (instance_unmade _ _ (c.in_ok-first.ensures _) (c.in_ok-second.ensures _) (c.in-Some.ensures.some _) (c.in_ok-made.ensures _) c.in_err-args.ensures.fails)

pub returns-in_err-end : goal.returns-in_err-end
returns-in_err-end c =
    let a = c.in_ok-args.ensures.read in
    exits _ _ _ _ _ c.from_residual-in_err-end.ensures.1 ((instance_ends _ _ (c.in_ok-first.ensures _) (c.in_ok-second.ensures _) (c.in-Some.ensures.some _) (c.in_ok-made.ensures _) a.1).fails (c.in_err-end.ensures _))

pub returns : goal.returns
returns c =
    let a = c.in_ok-args.ensures.read in
    rw (c.in_ok-instance.ensures, a.2) ((instance_ends _ _ (c.in_ok-first.ensures _) (c.in_ok-second.ensures _) (c.in-Some.ensures.some _) (c.in_ok-made.ensures _) a.1).reads (c.in_ok-end.ensures _))
