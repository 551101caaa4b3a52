use Rattle.cov_session.proofs.Buffers.{moved}
use Rattle.cov_session.proofs.inbox.to_front.Goals as goal

pub returns : goal.returns
returns c = moved c.args.bytes.now c.copy_within.new.self c.args.start c.args.end c.requires.order c.requires.within c.copy_within.ensures.after
