use Rattle.std.proofs.Common.{◌≡◌, length}
use Rattle.cov_history.specs.Tables.{agree, same_instance}
use Rattle.history_answers.proofs.suiting.same_instances.Given as goal

abbrev pub invariant-loop-inst : goal.invariant-loop-inst
invariant-loop-inst l = agree (same_instance l.groups l.others) l.rest l.left ≡ agree (same_instance l.groups l.others) l.insts l.other_insts

abbrev pub decreases-loop-inst : goal.decreases-loop-inst
decreases-loop-inst l = length l.rest
