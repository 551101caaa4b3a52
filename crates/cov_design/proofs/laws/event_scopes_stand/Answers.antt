use Rattle.cov_design.proofs.Watching.{scopes_stand}
use Rattle.cov_design.proofs.laws.event_scopes_stand.Goals as goal

pub returns : goal.returns
returns c = scopes_stand
