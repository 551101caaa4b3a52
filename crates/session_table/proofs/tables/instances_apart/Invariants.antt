use Rattle.std.proofs.Common.{◌≡◌, ◌+◌, length}
use Rattle.cov_history.specs.Tables.{same_instance}
use Rattle.session_table.specs.Contents.{apart}
use Rattle.session_table.proofs.tables.instances_apart.Given as goal

abbrev pub invariant-loop-instance : goal.invariant-loop-instance
invariant-loop-instance l = record {
  place : apart (same_instance l.groups l.other_groups) l.at l.rest l.left ≡ apart (same_instance l.groups l.other_groups) 0 l.instances l.others;
  long : l.at + length l.left ≡ length l.others;
}

abbrev pub decreases-loop-instance : goal.decreases-loop-instance
decreases-loop-instance l = length l.rest
