use Rattle.std.proofs.Common.{sym, []}
use Rattle.std.proofs.Common.{Some, None}
use Rattle.item_parser.proofs.BinsWalks.{sequence_stands, no_sequence}
use Rattle.item_parser.proofs.bins.default_end.Goals as goal

pub returns-then-not-is_scalar : goal.returns-then-not-is_scalar
returns-then-not-is_scalar c = λ r. (None, no_sequence [] c.args.reader.tokens.now _ r c.args.place (λ e. let a = c.is_scalar.ensures in let n = c.if-not-is_scalar.true in absurd (cc)), sym c.of.ensures)

pub returns-in-Some : goal.returns-in-Some
returns-in-Some c = λ r. (Some _, sequence_stands [] c.args.reader.tokens.now _ (let a = c.is_scalar.ensures in let n = c.if-not-is_scalar.false in cc) (c.in-Some.ensures.some r), sym c.of-in-Some.ensures)

pub returns-in-None : goal.returns-in-None
returns-in-None c = λ r. (None, no_sequence [] c.args.reader.tokens.now _ r _ (λ e. c.in-None.ensures.none), sym c.of-in-None.ensures)
