use Rattle.std.proofs.Common.{◌≡◌, ◌≤◌, ◌<◌, ◌-◌, ℕ, false, codes, length}
use Rattle.cov_lexer.specs.Operators.{stands}
use Rattle.cov_lexer.proofs.pieces.comment_close.Given as goal

abbrev pub invariant-loop-close : goal.invariant-loop-close
invariant-loop-close l = record { from : l.«at» ≤ l.close; inside : l.close ≤ length l.text; none : (q : ℕ) → l.«at» ≤ q → q < l.close → stands l.text q (codes "*/") ≡ false }

abbrev pub decreases-loop-close : goal.decreases-loop-close
decreases-loop-close l = length l.text - l.close
