use Rattle.std.proofs.Common.{arith, subst, rules, ◌≡◌}
use Rattle.trans_auto.specs.Layout.{SeqsLaid}
use Rattle.trans_auto.proofs.Slices.{others, split}
use Rattle.trans_auto.proofs.Walking.{SeqEnters, seqs_enter-nil, seqs_enter-cons}
use Rattle.trans_auto.proofs.steps.+seqs_enter.Goals as goal

pub returns-in-empty : goal.returns-in-empty
returns-in-empty t c = λ base seqs laid clear. seqs_enter-nil c.args.fresh base c.args.old c.args.start seqs c.args.cells.now (omega arith) laid clear

pub returns-in-len1-up : goal.returns-in-len1-up
returns-in-len1-up t c = λ base seqs laid clear.
    let a = c.args in
    let cells = a.cells.now in
    let one = c.one-item.result in
    let slice : c.as_slice.result.now ≡ one = search rules in
    seqs_enter-cons a.fresh base a.old a.start c.items_enter-lower.result c.seqs_enter.result seqs one (others cells)
    (subst (λ xs. SeqsLaid base seqs xs) (split cells one (omega arith) c.one-item.is) laid) clear
    (subst (λ xs. SeqEnters a.fresh a.old a.start c.items_enter-lower.result xs) slice c.items_enter-lower.ensures) c.seqs_enter.ensures
