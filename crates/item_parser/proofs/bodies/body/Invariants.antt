use Rattle.std.proofs.Common.{◌-◌, length}
use Rattle.item_parser.proofs.BodyWalks.{InBody}
use Rattle.item_parser.proofs.bodies.body.Given as goal

abbrev pub invariant-loop-after : goal.invariant-loop-after
invariant-loop-after g l = InBody l.reader.text.now l.reader.tokens.now (g.D.Declared.rule l.reader.text.now l.reader.tokens.now) l.room l.fn.place (l.options, l.declarations) l.at

abbrev pub decreases-loop-after : goal.decreases-loop-after
decreases-loop-after g l = length l.reader.tokens.now - l.at.at
