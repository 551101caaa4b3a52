use Rattle.std.proofs.Common.{◌≡◌, length}
use Rattle.cov_history.specs.Tables.{agree, is_instance}
use Rattle.history_answers.proofs.suiting.are_instances.Given as goal

abbrev pub invariant-loop-row : goal.invariant-loop-row
invariant-loop-row l = agree (is_instance l.version l.groups) l.rest l.left ≡ agree (is_instance l.version l.groups) l.rows l.insts

abbrev pub decreases-loop-row : goal.decreases-loop-row
decreases-loop-row l = length l.rest
