use Rattle.std.proofs.Common.{◌≡◌, ◌+◌, subst, sym, arith, rules}
use Rattle.trans_seq.specs.Cells.{cells_of_items}
use Rattle.trans_auto.specs.Layout.{ItemsMarked, SeqsMarked}
use Rattle.trans_auto.proofs.Slices.{others, split}
use Rattle.trans_auto.proofs.Adding.{SameBelow, items-marked-same}
use Rattle.trans_auto.proofs.marks.+mark_seqs.Goals as goal

pub returns-in-len1-up-clause-here : goal.returns-in-len1-up-clause-here
returns-in-len1-up-clause-here t c =
    let a = c.args in
    let seqs = a.seqs.now in
    let d = c.seq-item.result in
    let items = d.items in
    let lower = c.mark_items-lower.result in
    let mask = c.mark_seqs.result in
    let slice : c.as_slice-items.result.now ≡ items = search rules in
    let size : c.cells_of.result ≡ cells_of_items items = search rules in
    let here : ItemsMarked a.mark a.base lower items = subst (λ xs. ItemsMarked a.mark a.base lower xs) slice c.mark_items-lower.ensures.here in
    let same : SameBelow (a.base + cells_of_items items) mask lower = λ k h. c.mark_seqs.ensures.below k (omega (arith, h, size)) in
    let rest : SeqsMarked a.mark (a.base + cells_of_items items) mask (others seqs) = subst (λ n. SeqsMarked a.mark (a.base + n) mask (others seqs)) size c.mark_seqs.ensures.here in
    subst (λ xs. SeqsMarked a.mark a.base mask xs) (sym (split seqs d (omega arith) c.seq-item.is))
    (items-marked-same a.mark a.base mask lower items same here, rest)
