use Rattle.std.proofs.Common.{◌≡◌, ◌++◌, ℕ, List, length}
use Rattle.cov_lexer.specs.Lexes.{AllSpelled}
use Rattle.cov_grammar.specs.Marking.{marked, marked_from}
use Rattle.cov_parser.proofs.marks.marks.Given as goal

abbrev pub invariant-loop-token : goal.invariant-loop-token
invariant-loop-token l = (text : List ℕ) → AllSpelled text l.fn.tokens → AllSpelled text l.rest × (l.found.items ++ marked_from text l.named l.rest ≡ marked text l.fn.tokens)

abbrev pub decreases-loop-token : goal.decreases-loop-token
decreases-loop-token l = length l.rest
