use Rattle.std.proofs.Common.{◌≡◌, map, drop}
use Rattle.cov_lexer.specs.Operators.{first_standing}
use Rattle.cov_lexer.specs.Reading.{seen}
use Rattle.cov_lexer.proofs.operators.first_standing.Given as goal

abbrev pub invariant-loop-spelling : goal.invariant-loop-spelling
invariant-loop-spelling l = first_standing l.text l.«at» (map seen l.table) ≡ first_standing l.text l.«at» (map seen (drop l.spelling-index l.table))
