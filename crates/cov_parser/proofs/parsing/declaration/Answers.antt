use Rattle.cov_grammar.proofs.Steps.{leads_parses}
use Rattle.cov_parser.proofs.DesignWalks.{decl_enum, decl_group, decl_named, decl_built_in}
use Rattle.cov_parser.proofs.parsing.declaration.Goals as goal

pub returns-in-Some : goal.returns-in-Some
returns-in-Some c = leads_parses _ (decl_enum _ _ c.in-Some.ensures.here) c.enumeration.ensures

pub returns-in-Some-take : goal.returns-in-Some-take
returns-in-Some-take c = leads_parses _ (decl_group _ _ c.in_default.ensures.none c.in-Some-take.ensures.here) c.group.ensures

pub returns-in-Some-take-2 : goal.returns-in-Some-take-2
returns-in-Some-take-2 c = leads_parses _ (decl_named _ _ c.in_default.ensures.none c.in_default-take.ensures.none c.in-Some-take-2.ensures.here) c.named.ensures

pub returns : goal.returns
returns c = leads_parses _ (decl_built_in _ _ c.in_default.ensures.none c.in_default-take.ensures.none c.in_default-take-2.ensures.none) c.variables.ensures
