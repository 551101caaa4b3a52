use Rattle.std.proofs.Common.{sym, ◌∙◌}
use Rattle.cov_disk.proofs.appending.append.Goals as goal

pub open_gate-requires-clause-place : goal.open_gate-requires-clause-place
open_gate-requires-clause-place g c = λ t. c.in_ok-stage.ensures.place (sym c.stage.ensures.told ∙ t)
