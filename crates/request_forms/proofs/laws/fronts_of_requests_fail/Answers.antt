use Rattle.request_forms.proofs.RequestLaws.{front_fails}
use Rattle.request_forms.proofs.laws.fronts_of_requests_fail.Goals as goal

pub returns : goal.returns
returns c = front_fails
