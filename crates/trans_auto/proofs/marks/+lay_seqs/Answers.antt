use Rattle.std.proofs.Common.{◌≡◌, ◌+◌, ◌∷◌, List, subst, sym, arith, rules}
use Rattle.trans_seq.specs.Cells.{cells_of_items}
use Rattle.trans_auto.specs.declared.marks.ItemCells.{ItemCells}
use Rattle.trans_auto.specs.Layout.{ItemsLaid, SeqsLaid, Grows}
use Rattle.trans_auto.proofs.Slices.{others, split}
use Rattle.trans_auto.proofs.Growing.{grows-on}
use Rattle.std.specs.Prelude.{OnOk}
use Rattle.trans_auto.proofs.marks.+lay_seqs.Goals as goal

pub returns-in_ok-push-in-len1-up : goal.returns-in_ok-push-in-len1-up
returns-in_ok-push-in-len1-up t c =
    let a = c.args in
    let seqs = a.seqs.now in
    let d = c.seq-item.result in
    let one = c.in_ok-laid_items-in-len1-up.field-0 in
    let new = c.lay_seqs.new.out.items in
    let slice : c.as_slice-items.result.now ≡ d.items = search rules in
    let size : c.cells_of.result ≡ cells_of_items d.items = search rules in
    let here : ItemsLaid a.base d.items one = subst (λ items. ItemsLaid a.base items one) slice c.in_ok-laid_items-in-len1-up.ensures in
    let Q : List (List ItemCells) → Type 0 = λ cells. SeqsLaid a.base (d ∷ others seqs) cells in
    let grown = grows-on c.lay_seqs.result a.out.now.items _ new one (λ cells. SeqsLaid (a.base + c.cells_of.result) (others seqs) cells) Q c.in_ok-push-in-len1-up.ensures.items
    (λ rest laid. (here, subst (λ n. SeqsLaid (a.base + n) (others seqs) rest) size laid)) c.lay_seqs.ensures in
    subst (λ xs. OnOk c.lay_seqs.result (Grows a.out.now.items new (λ cells. SeqsLaid a.base xs cells))) (sym (split seqs d (omega arith) c.seq-item.is)) grown
