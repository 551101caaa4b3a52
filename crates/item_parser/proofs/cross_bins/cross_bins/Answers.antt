use Rattle.cov_grammar.proofs.Steps.{exits}
use Rattle.item_parser.proofs.BodyWalks.{no_bins_word, cross_rests, named_unnamed, named_unassigned, named_unselected, named_selects, named_unguarded, named_ends}
use Rattle.item_parser.proofs.cross_bins.cross_bins.Goals as goal

pub returns-in_default : goal.returns-in_default
returns-in_default c = no_bins_word _ _ c.in_default.ensures.none

pub returns-in_err-name : goal.returns-in_err-name
returns-in_err-name c = exits _ _ _ _ _ c.from_residual.ensures.1 ((cross_rests _ _ (c.in-Some.ensures.some _)).fails (named_unnamed _ _ (c.in_err-name.ensures _)))

pub returns-in_err-at : goal.returns-in_err-at
returns-in_err-at c = exits _ _ _ _ _ c.from_residual-in_err-at.ensures.1 ((cross_rests _ _ (c.in-Some.ensures.some _)).fails (named_unassigned _ _ (c.in_ok-name.ensures _) (c.in_err-at.ensures _)))

pub returns-in_err-sel : goal.returns-in_err-sel
returns-in_err-sel c = exits _ _ _ _ _ c.from_residual-in_err-sel.ensures.1 ((cross_rests _ _ (c.in-Some.ensures.some _)).fails (named_unselected _ _ (c.in_ok-name.ensures _) (c.in_ok-at.ensures _) c.in_err-sel.ensures))

pub returns-in_err-guard : goal.returns-in_err-guard
returns-in_err-guard c = exits _ _ _ _ _ c.from_residual-in_err-guard.ensures.1
    ((cross_rests _ _ (c.in-Some.ensures.some _)).fails (named_unguarded _ _ (named_selects _ _ (c.in_ok-name.ensures _) (c.in_ok-at.ensures _) c.in_ok-sel.ensures) c.in_err-guard.ensures))

pub returns-in_err-after : goal.returns-in_err-after
returns-in_err-after c = exits _ _ _ _ _ c.from_residual-in_err-after.ensures.1
    ((cross_rests _ _ (c.in-Some.ensures.some _)).fails ((named_ends _ _ (named_selects _ _ (c.in_ok-name.ensures _) (c.in_ok-at.ensures _) c.in_ok-sel.ensures) c.in_ok-guard.ensures).fails (c.in_err-after.ensures _)))

pub returns : goal.returns
returns c = rw (c.of.ensures, c.put.ensures, c.put-2.ensures, c.bins_word_of.ensures) ((cross_rests _ _ (c.in-Some.ensures.some _)).reads ((named_ends _ _ (named_selects _ _ (c.in_ok-name.ensures _) (c.in_ok-at.ensures _) c.in_ok-sel.ensures) c.in_ok-guard.ensures).reads (c.in_ok-after.ensures _)))
