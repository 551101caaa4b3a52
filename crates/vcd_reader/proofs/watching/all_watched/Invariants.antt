use Rattle.std.proofs.Common.{◌≡◌, [], length}
use Rattle.const_eval.specs.Scopes.{names_of}
use Rattle.vcd_reader.specs.Watching.{all_watched}
use Rattle.vcd_reader.proofs.watching.all_watched.Given as goal

abbrev pub invariant-loop-edge : goal.invariant-loop-edge
invariant-loop-edge l = all_watched (names_of l.scope) l.rest l.found ≡ all_watched (names_of l.scope) l.edges []

abbrev pub decreases-loop-edge : goal.decreases-loop-edge
decreases-loop-edge l = length l.rest
