use Rattle.session_laws.proofs.OneSession.{alone_is_one}
use Rattle.session_laws.proofs.alone_is_one.Goals as goal

pub returns : goal.returns
returns c = alone_is_one
