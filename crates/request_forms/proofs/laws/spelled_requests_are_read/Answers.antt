use Rattle.request_forms.proofs.RequestLaws.{read_again}
use Rattle.request_forms.proofs.laws.spelled_requests_are_read.Goals as goal

pub returns : goal.returns
returns c = read_again
