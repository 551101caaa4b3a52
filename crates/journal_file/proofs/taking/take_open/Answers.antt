use Rattle.std.proofs.Common.{arith}
use Rattle.std.proofs.lemmas.Result.{err_from_is_err_and}
use Rattle.journal_file.specs.Ending.{item_of}
use Rattle.journal_file.proofs.Taken.{machine_refuses, none_taken, other_sum, too_long, one_taken}
use Rattle.journal_file.proofs.taking.take_open.Goals as goal

pub returns-in_err-entry-clause-taken : goal.returns-in_err-entry-clause-taken
returns-in_err-entry-clause-taken g c = λ digest items t r o.
    let p = err_from_is_err_and c.from_residual.result c.from_residual.ensures.1 in
    rw (p.1, p.2) (machine_refuses digest c.args.sums.now (g.D.Disk.seen c.args.disk.now) c.in_err-entry.field-0.0 c.in_err-entry.ensures.machine)

pub returns-in_default-clause-taken : goal.returns-in_default-clause-taken
returns-in_default-clause-taken g c = λ digest items t r o.
    none_taken digest c.args.sums.now items c.args.end.now (g.D.Disk.seen c.args.disk.now) r o (rw c.in_default.is at (c.in_ok-entry.ensures.item t))

pub returns-then-not-agrees_at-clause-taken : goal.returns-then-not-agrees_at-clause-taken
returns-then-not-agrees_at-clause-taken g c = λ digest items t r o.
    let item = item_of c.in-Some.entry in
    let s = rw c.in-Some.is at (c.in_ok-entry.ensures.item t) in
    let e = c.behind-next.ensures.end digest items item r.ends c.head.ensures c.as_slice.ensures.value in
    other_sum digest c.args.sums.now items c.args.end.now (g.D.Disk.seen c.args.disk.now) r o item c.behind-next.result s e c.if-not-agrees_at.ensures

pub returns-then-next-ge-TOO_LONG-clause-taken : goal.returns-then-next-ge-TOO_LONG-clause-taken
returns-then-next-ge-TOO_LONG-clause-taken g c = λ digest items t r o.
    let item = item_of c.in-Some.entry in
    let s = rw c.in-Some.is at (c.in_ok-entry.ensures.item t) in
    let e = c.behind-next.ensures.end digest items item r.ends c.head.ensures c.as_slice.ensures.value in
    too_long digest c.args.sums.now items c.args.end.now (g.D.Disk.seen c.args.disk.now) r o item c.behind-next.result s e c.if-not-agrees_at.ensures (omega arith)

pub returns-clause-taken : goal.returns-clause-taken
returns-clause-taken g c = λ digest items t r o.
    let item = item_of c.in-Some.entry in
    let s = rw c.in-Some.is at (c.in_ok-entry.ensures.item t) in
    let e = c.behind-next.ensures.end digest items item r.ends c.head.ensures c.as_slice.ensures.value in
    one_taken digest c.args.sums.now items c.args.end.now (g.D.Disk.seen c.args.disk.now) r o item c.behind-next.result s e c.if-not-agrees_at.ensures
