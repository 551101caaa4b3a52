use Rattle.std.proofs.Common.{refl}
use Rattle.std.specs.Prelude.{Err}
use Rattle.cov_net.proofs.again.read_told.Goals as goal

pub returns-in-Err-clause-answer : goal.returns-in-Err-clause-answer
returns-in-Err-clause-answer g c = record { answer = Err c.in-Err.field-0; given = c.in-Err.ensures.answer; same = refl }
