use Rattle.request_forms.proofs.RequestLaws.{begins}
use Rattle.request_forms.proofs.laws.requests_begin_before_faults.Goals as goal

pub returns : goal.returns
returns c = begins
