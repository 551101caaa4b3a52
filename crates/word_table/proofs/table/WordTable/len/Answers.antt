use Rattle.std.proofs.Common.{ap, subst, ℤ, List, length, arith}
use Rattle.word_table.specs.Tables.{AreWords}
use Rattle.word_table.proofs.Pieces.{count_of}
use Rattle.word_table.proofs.table.WordTable.len.Goals as goal

pub returns-clause-count : goal.returns-clause-count
returns-clause-count c =
    let t = c.self.inside in
    let count = count_of t.starts.items t.values.items c.self.invariant.0 in
    let view = ap (λ (xs : List (List ℤ)). length xs) c.self.view_is in
    omega (arith, count, view, c.len.ensures, t.starts.ok.0)

pub returns-clause-words : goal.returns-clause-words
returns-clause-words c = subst AreWords c.self.view_is c.self.invariant.1
