use Rattle.std.proofs.Common.{Some, None, refl, []}
use Rattle.item_parser.proofs.MemberWalks.{edge_kind_read, no_edge_kind}
use Rattle.item_parser.proofs.events.edge_word.Goals as goal

pub returns-in-Some : goal.returns-in-Some
returns-in-Some c = λ r. (Some c.in-Some.token, edge_kind_read [] _ (c.in-Some.ensures.some r), c.edge_kind.ensures)

pub returns-in-None : goal.returns-in-None
returns-in-None c = λ r. (None, no_edge_kind [] _ c.in-None.ensures.none, refl)
