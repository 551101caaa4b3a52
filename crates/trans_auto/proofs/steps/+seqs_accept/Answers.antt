use Rattle.std.proofs.Common.{arith, subst, rules, ◌≡◌}
use Rattle.trans_auto.specs.Layout.{SeqsLaid}
use Rattle.trans_auto.proofs.Slices.{others, split}
use Rattle.trans_auto.proofs.Walking.{SeqAccepts, seqs_accept-nil, seqs_accept-cons}
use Rattle.trans_auto.proofs.steps.+seqs_accept.Goals as goal

pub returns-in-empty : goal.returns-in-empty
returns-in-empty t c = λ base seqs laid. seqs_accept-nil c.args.fresh base c.args.mask c.args.found seqs c.args.cells.now (omega arith) laid

pub returns-in-len1-up : goal.returns-in-len1-up
returns-in-len1-up t c = λ base seqs laid.
    let a = c.args in
    let cells = a.cells.now in
    let one = c.one-item.result in
    let slice : c.as_slice.result.now ≡ one = search rules in
    seqs_accept-cons a.fresh base a.mask a.found seqs one (others cells) c.items_accept-complete.result c.seqs_accept.result
    (subst (λ xs. SeqsLaid base seqs xs) (split cells one (omega arith) c.one-item.is) laid)
    (subst (λ xs. SeqAccepts a.fresh a.mask c.items_accept-complete.result xs) slice c.items_accept-complete.ensures) c.seqs_accept.ensures
