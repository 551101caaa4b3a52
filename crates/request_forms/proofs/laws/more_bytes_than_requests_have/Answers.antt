use Rattle.request_forms.proofs.RequestLaws.{more_fails}
use Rattle.request_forms.proofs.laws.more_bytes_than_requests_have.Goals as goal

pub returns : goal.returns
returns c = more_fails
