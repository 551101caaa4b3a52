use Rattle.std.proofs.Common.{ℕ, ◌+◌, ◌-◌, ◌<◌, List, get_or, length, drop, subst, arith}
use Rattle.std.proofs.lemmas.List.{drop_more, drop_all}
use Rattle.tally.proofs.RowLemmas.{Added, add_row, past_end, front_at, all_added, row_whole}
use Rattle.tally.proofs.tally.add_rows.Goals as goal

pub overflow_sub-index : goal.overflow_sub-index
overflow_sub-index c = let front = front_at c.args.first c.args.rows.now c.loop-bin.bin-index c.loop-bin-test.true c.requires.ascending in omega (arith, front.0)

pub returns-then-index-counts : goal.returns-then-index-counts
returns-then-index-counts c =
    let rows = c.args.rows.now in
    let i = c.loop-bin.bin-index in
    let row = get_or rows i (0, 0) in
    let front = front_at c.args.first rows i c.loop-bin-test.true c.requires.ascending in
    past_end c.args.first rows row (drop (i + 1) rows) c.args.counts.now c.loop-bin.counts
    (subst (λ (left : List (ℕ × ℕ)). Added c.args.first rows left c.args.counts.now c.loop-bin.counts) (drop_more rows i (0, 0) c.loop-bin-test.true) c.loop-bin.invariant)
    (row.0 - c.args.first) (omega (arith, front.0)) front (omega (arith, c.loop-bin.auto.counts, c.if-index-counts.true))

pub overflow_add-counts : goal.overflow_add-counts
overflow_add-counts c =
    let rows = c.args.rows.now in
    let i = c.loop-bin.bin-index in
    let row = get_or rows i (0, 0) in
    let front = front_at c.args.first rows i c.loop-bin-test.true c.requires.ascending in
    let index = row.0 - c.args.first in
    let inside : index < length c.args.counts.now = omega (arith, c.loop-bin.auto.counts, c.if-index-counts.false) in
    let whole = row_whole c.args.first rows row (drop (i + 1) rows) c.args.counts.now c.loop-bin.counts
    (subst (λ (left : List (ℕ × ℕ)). Added c.args.first rows left c.args.counts.now c.loop-bin.counts) (drop_more rows i (0, 0) c.loop-bin-test.true) c.loop-bin.invariant)
    index (omega (arith, front.0)) inside in
    let room = c.requires.room index inside in
    omega (arith, whole, room)

pub loop-bin-preserved : goal.loop-bin-preserved
loop-bin-preserved c =
    let rows = c.args.rows.now in
    let i = c.loop-bin.bin-index in
    let row = get_or rows i (0, 0) in
    let front = front_at c.args.first rows i c.loop-bin-test.true c.requires.ascending in
    add_row c.args.first rows row (drop (i + 1) rows) c.args.counts.now c.loop-bin.counts
    (subst (λ (left : List (ℕ × ℕ)). Added c.args.first rows left c.args.counts.now c.loop-bin.counts) (drop_more rows i (0, 0) c.loop-bin-test.true) c.loop-bin.invariant)
    (row.0 - c.args.first) (omega (arith, front.0)) front (omega (arith, c.loop-bin.auto.counts, c.if-index-counts.false))

pub returns : goal.returns
returns c =
    all_added c.args.first c.args.rows.now (drop c.loop-bin.bin-index c.args.rows.now) c.args.counts.now c.loop-bin.counts
    (drop_all c.loop-bin.bin-index c.args.rows.now c.loop-bin-test.false) c.loop-bin.invariant
