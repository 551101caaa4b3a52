use Rattle.std.proofs.Common.{◌∙◌, ap, sym, List, ℕ, arith, length, ◌<◌}
use Rattle.std.specs.Prelude.{slice_index}
use Rattle.store_sums.specs.Runs.{Marks}
use Rattle.store_sums.proofs.Running.{alike_in, read_is}
use Rattle.store_sums.proofs.runs.Runs.piece.Goals as goal

pub returns-then-last-end-clause-alike : goal.returns-then-last-end-clause-alike
returns-then-last-end-clause-alike c j from upto =
    let i = c.self.inside in
    let k = c.args.first in
    let runs = c.self.invariant.0 in
    let same = ap (λ (m : Marks). m.parents) c.self.view_is in
    let len = ap (λ (xs : List ℕ). length xs) same in
    let inside : k < length i.parents.items = omega (arith, len, c.requires.some, c.requires.inside) in
    let begin = read_is i.begins.items k c.index.result.now (omega (arith, inside, runs.begins_len)) c.index.ensures in
    let end = read_is i.ends.items k c.index-last.result.now (omega (arith, inside, runs.ends_len)) c.index-last.ensures in
    ap (λ (xs : List ℕ). slice_index xs j) (sym same)
    ∙ alike_in i.parents.items i.begins.items i.ends.items runs k j inside (sym begin ∙ c.if-index-first.true) from (omega (arith, upto, end))
    ∙ ap (λ (xs : List ℕ). slice_index xs k) same
