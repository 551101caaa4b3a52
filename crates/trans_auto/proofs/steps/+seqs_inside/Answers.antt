use Rattle.std.proofs.Common.{arith, subst, sym, rules, ◌≡◌, ◌∷◌}
use Rattle.trans_seq.specs.Cells.{cells_of_seqs}
use Rattle.trans_auto.specs.Layout.{Adds, SeqsLaid, SeqsInside}
use Rattle.trans_auto.proofs.Slices.{others, split}
use Rattle.trans_auto.proofs.Walking.{SeqInside, seqs_inside-cons}
use Rattle.trans_auto.proofs.steps.+seqs_inside.Goals as goal

pub returns-in-len1-up-cells : goal.returns-in-len1-up-cells
returns-in-len1-up-cells t c = λ base laid clear.
    let a = c.args in
    let v = a.sample.now in
    let seqs = a.seqs.now in
    let cells = a.cells.now in
    let seq = c.seq-item.result in
    let one = c.one-item.result in
    let lower = c.items_inside-lower.result in
    let new = c.seqs_inside.result in
    let parts = split seqs seq (omega arith) c.seq-item.is in
    let items : c.as_slice.result.now ≡ seq.items = search rules in
    let slice : c.as_slice-in-len1-up-cells.result.now ≡ one = search rules in
    let here = subst (λ xs. SeqInside v a.start lower seq.items xs) slice (subst (λ is. SeqInside v a.start lower is c.as_slice-in-len1-up-cells.result.now) items c.items_inside-lower.ensures) in
    subst (λ xs. Adds base (cells_of_seqs xs) a.start new (λ mask. SeqsInside base mask v xs)) (sym parts)
    (seqs_inside-cons base a.start lower new v seq (others seqs) one (others cells)
    (subst (λ xs. SeqsLaid base (seq ∷ others seqs) xs) (split cells one (omega arith) c.one-item.is) (subst (λ xs. SeqsLaid base xs cells) parts laid)) clear here c.seqs_inside.ensures)
