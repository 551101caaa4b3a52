use Rattle.request_forms.proofs.RequestLaws.{is_decided}
use Rattle.request_forms.proofs.laws.faults_of_requests_are_decided_early.Goals as goal

pub returns : goal.returns
returns c = is_decided
