use Rattle.std.proofs.Common.{◌-◌, length}
use Rattle.item_parser.proofs.MemberWalks.{Members}
use Rattle.item_parser.proofs.items.members.Given as goal

abbrev pub invariant-loop-token : goal.invariant-loop-token
invariant-loop-token l = Members l.reader.text.now l.reader.tokens.now l.room l.fn.place l.members l.at

abbrev pub decreases-loop-token : goal.decreases-loop-token
decreases-loop-token l = length l.reader.tokens.now - l.at.at
