use Rattle.std.proofs.Common.{◌≡◌, ◌++◌, length, map}
use Rattle.cov_counting.specs.Tables.{instance_row}
use Rattle.cov_counting.proofs.tables.instance_rows.Given as goal

abbrev pub invariant-loop-instance : goal.invariant-loop-instance
invariant-loop-instance l = l.rows ++ map (instance_row l.version l.groups) l.rest ≡ map (instance_row l.version l.groups) l.instances

abbrev pub decreases-loop-instance : goal.decreases-loop-instance
decreases-loop-instance l = length l.rest
