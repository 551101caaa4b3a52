use Rattle.std.proofs.Common.{◌∙◌, arith}
use Rattle.journal_file.proofs.Longer.{one_longer}
use Rattle.journal_file.proofs.Linked.{nothing_missing, one_missing}
use Rattle.journal_file.proofs.opening.make_up.Goals as goal

pub returns-then-end-whole_sums : goal.returns-then-end-whole_sums
returns-then-end-whole_sums c = λ digest items item e was.
    nothing_missing digest c.args.sums.now items item c.args.end.now.sum c.args.missing.now.items (omega (arith, c.if-end-whole_sums.true, c.whole_sums.ensures, e.count, one_longer items item)) was

pub returns : goal.returns
returns c = λ digest items item e was.
    c.in_ok-extend_from_slice.ensures.items
    ∙ one_missing digest c.args.sums.now items item c.args.end.now.sum c.args.missing.now.items (omega (arith, c.if-end-whole_sums.false, c.whole_sums.ensures, e.count, one_longer items item)) e.sum was
