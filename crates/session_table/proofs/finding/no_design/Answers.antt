use Rattle.session_table.proofs.Found.{fault_body}
use Rattle.session_table.proofs.finding.no_design.Goals as goal

pub returns-in-Ok-clause-body : goal.returns-in-Ok-clause-body
returns-in-Ok-clause-body c = fault_body c.args.fault c.in-Some.refusal c.in-Ok.kind c.as_bytes.result.now c.in-Some.ensures c.in-Ok.ensures c.as_bytes.ensures.value
