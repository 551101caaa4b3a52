use Rattle.cov_grammar.proofs.Steps.{leads_parses}
use Rattle.item_parser.proofs.TypeWalks.{not_named, named_read}
use Rattle.item_parser.proofs.types.type_text.Goals as goal

pub returns-in_default : goal.returns-in_default
returns-in_default c = leads_parses _ (not_named _ _ c.in_default.ensures.none) c.built_in.ensures

pub returns : goal.returns
returns c = rw (c.of.ensures, c.in_ok-name.ensures) (named_read _ _ c.in-Some.ensures.here (c.in-Some.ensures.some _))
