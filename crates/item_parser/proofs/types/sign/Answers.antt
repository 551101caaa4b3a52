use Rattle.item_parser.proofs.TypeWalks.{signed, unsigned}
use Rattle.item_parser.proofs.types.sign.Goals as goal
use Rattle.std.proofs.Common.{Some, None, refl}

pub returns-in-Some : goal.returns-in-Some
returns-in-Some c = λ r. (Some c.in-Some.token, signed c.args.reader.text.now _ (c.in-Some.ensures.some r), c.is_one_of.ensures)

pub returns-in-None : goal.returns-in-None
returns-in-None c = λ r. (None, unsigned c.args.reader.text.now _ c.in-None.ensures.none, refl)
