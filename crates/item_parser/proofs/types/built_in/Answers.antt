use Rattle.cov_grammar.proofs.Steps.{leads_parses}
use Rattle.item_parser.proofs.TypeWalks.{not_fixed, fixed_read}
use Rattle.item_parser.proofs.types.built_in.Goals as goal

pub returns-in_default : goal.returns-in_default
returns-in_default c = leads_parses _ (not_fixed _ _ c.in_default.ensures.none) c.vector.ensures

pub returns : goal.returns
returns c = let s = c.sign-signed.ensures c.args.room in
    rw (c.of.ensures, c.width_of-width.ensures, s.2) (fixed_read _ _ c.in-Some.ensures.here (c.in-Some.ensures.some _) s.1)
