use Rattle.std.proofs.Common.{◌-◌, length}
use Rattle.token_reader.proofs.Chains.{More}
use Rattle.token_reader.proofs.reader.Reader.more.Given as goal

abbrev pub invariant-loop-next : goal.invariant-loop-next
invariant-loop-next g l = More l.self.tokens.now (g.I.Item.rule l.item l.self.text.now l.self.tokens.now) g.I.Item.put g.I.Item.separators l.room l.fn.place l.fn.before l.list l.at

abbrev pub decreases-loop-next : goal.decreases-loop-next
decreases-loop-next g l = length l.self.tokens.now - l.at.at
