use Rattle.session_laws.proofs.OneSession.{alone_is_never_late}
use Rattle.session_laws.proofs.alone_is_never_late.Goals as goal

pub returns : goal.returns
returns c = alone_is_never_late
