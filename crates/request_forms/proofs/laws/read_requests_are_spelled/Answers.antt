use Rattle.request_forms.proofs.RequestLaws.{is_spelled}
use Rattle.request_forms.proofs.laws.read_requests_are_spelled.Goals as goal

pub returns : goal.returns
returns c = is_spelled
