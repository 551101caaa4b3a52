use Rattle.std.proofs.Common.{refl, []}
use Rattle.std.proofs.Common.{Some, None}
use Rattle.item_parser.proofs.BinsWalks.{has_wildcard, no_wildcard}
use Rattle.item_parser.proofs.bins.wildcard.Goals as goal

pub returns-in-Some : goal.returns-in-Some
returns-in-Some c = λ r. (Some _, has_wildcard [] c.args.reader.tokens.now (c.in-Some.ensures.some r), refl)

pub returns-in-None : goal.returns-in-None
returns-in-None c = λ r. (None, no_wildcard [] c.args.reader.tokens.now c.in-None.ensures.none, refl)
