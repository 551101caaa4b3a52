use Rattle.std.proofs.Common.{◌-◌, ◌≤◌, length}
use Rattle.cov_grammar.specs.Fault.{limits}
use Rattle.cov_grammar.proofs.Whole.{Stands}
use Rattle.cov_parser.proofs.parsing.design.Given as goal

abbrev pub invariant-loop-place : goal.invariant-loop-place
invariant-loop-place l = Stands l.reader.text.now l.reader.tokens.now limits l.decls l.place × (l.place.at ≤ length l.reader.tokens.now)

abbrev pub decreases-loop-place : goal.decreases-loop-place
decreases-loop-place l = length l.reader.tokens.now - l.place.at
