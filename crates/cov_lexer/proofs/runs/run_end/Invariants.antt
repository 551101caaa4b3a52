use Rattle.std.proofs.Common.{◌≤◌, ◌-◌, length}
use Rattle.cov_lexer.specs.Bytes.{has}
use Rattle.cov_lexer.specs.Forms.{AllPass}
use Rattle.cov_lexer.proofs.runs.run_end.Given as goal

abbrev pub invariant-loop-end : goal.invariant-loop-end
invariant-loop-end l = record { from : l.«at» ≤ l.«end»; inside : l.«end» ≤ length l.text; all : AllPass (has l.class) l.text l.«at» l.«end» }

abbrev pub decreases-loop-end : goal.decreases-loop-end
decreases-loop-end l = length l.text - l.«end»
