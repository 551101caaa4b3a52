use Rattle.std.proofs.Common.{◌≡◌, map, drop}
use Rattle.cov_lexer.specs.Spellings.{kind_among}
use Rattle.cov_lexer.specs.Reading.{seen}
use Rattle.cov_lexer.proofs.spellings.kind_in.Given as goal

abbrev pub invariant-loop-spelling : goal.invariant-loop-spelling
invariant-loop-spelling l = kind_among l.text (map seen l.table) ≡ kind_among l.text (map seen (drop l.spelling-index l.table))
