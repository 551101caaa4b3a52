use Rattle.std.proofs.Common.{arith, subst, Err}
use Rattle.request_forms.specs.declared.fault.Fault.{Fault}
use Rattle.request_forms.specs.Given.{Asks}
use Rattle.request_forms.specs.Requests.{request_left}
use Rattle.request_forms.proofs.RequestLaws.{spells_left, none_left}
use Rattle.request_forms.proofs.request_reading.read_request.Goals as goal

pub returns-in-Ok-clause-spelled : goal.returns-in-Ok-clause-spelled
returns-in-Ok-clause-spelled c = spells_left c.args.body.now c.in-Ok.request (λ i. omega (arith, c.type_inv.body i)) c.in-Ok.ensures

pub returns-in-Err-At-clause-none : goal.returns-in-Err-At-clause-none
returns-in-Err-At-clause-none c = none_left c.args.body.now c.in-Err-At.left (subst (λ (f : Fault). Asks (Err f) (request_left c.args.body.now)) c.in-Err-At.field-0-is c.in-Err-At.ensures)
