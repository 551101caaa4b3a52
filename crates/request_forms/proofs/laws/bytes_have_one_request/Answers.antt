use Rattle.request_forms.proofs.RequestLaws.{one_request}
use Rattle.request_forms.proofs.laws.bytes_have_one_request.Goals as goal

pub returns : goal.returns
returns c = one_request
