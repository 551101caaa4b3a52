use Rattle.std.proofs.Common.{◌≡◌, ℕ, ◌+◌, List, [], ◌++◌, get_or, drop, sym, ap, ◌∙◌, append-nil}
use Rattle.std.proofs.lemmas.List.{drop_more, drop_all}
use Rattle.tally.proofs.RowLemmas.{front_at}
use Rattle.rank_report.specs.Ranking.{Test}
use Rattle.rank_report.specs.Steps.{hits_from}
use Rattle.rank_report.proofs.Walk.{before_row, no_rows}
use Rattle.rank_report.proofs.hits.Hits.of.Goals as goal

pub loop-bin-preserved : goal.loop-bin-preserved
loop-bin-preserved c =
    let rows = c.rows-bin-items.result.now in
    let wanted = c.args.wanted.now in
    let i = c.loop-bin.bin-index in
    let row = get_or rows i (0, 0) in
    let rest = drop (i + 1) rows in
    let ascends = front_at 0 rows i c.loop-bin-test.true c.rows-bin-items.ensures.ascending in
    let step = c.in_ok-index.ensures.hits rest ascends.2 in
    let skip = before_row row rest wanted c.loop-bin.index c.first_of-first.result ascends c.first_of-first.ensures.range.0 c.first_of-first.ensures.range.1 c.first_of-first.ensures.before in
    let front = drop_more rows i (0, 0) c.loop-bin-test.true in
    record {
      so_far = step ∙ (ap (λ (l : List (ℕ × ℕ)). c.loop-bin.pairs.items ++ l) (sym skip ∙ ap (λ (test : Test). hits_from c.loop-bin.index test (drop c.loop-bin.index wanted)) (sym front)) ∙ c.loop-bin.invariant.so_far);
      few = c.in_ok-index.ensures.short;
      within = c.in_ok-index.ensures.range.1;
    }

pub returns : goal.returns
returns c =
    let rows = c.rows-bin-items.result.now in
    let left = drop c.loop-bin.index c.args.wanted.now in
    let none : hits_from c.loop-bin.index (drop c.loop-bin.bin-index rows) left ≡ [] = ap (λ (test : Test). hits_from c.loop-bin.index test left) (drop_all c.loop-bin.bin-index rows c.loop-bin-test.false) ∙ no_rows c.loop-bin.index left in
    sym (append-nil c.loop-bin.pairs.items) ∙ (ap (λ (l : List (ℕ × ℕ)). c.loop-bin.pairs.items ++ l) (sym none) ∙ c.loop-bin.invariant.so_far)
