use Rattle.std.proofs.Common.{◌≡◌, ◌++◌, length}
use Rattle.vcd_reader.specs.Signals.{vars_in}
use Rattle.vcd_reader.proofs.signals.pairs_in.Given as goal

abbrev pub invariant-loop-var : goal.invariant-loop-var
invariant-loop-var l = l.pairs.items ++ vars_in l.scope l.rest ≡ vars_in l.scope l.vars

abbrev pub decreases-loop-var : goal.decreases-loop-var
decreases-loop-var l = length l.rest
