use Rattle.std.proofs.Common.{◌≡◌, ◌+◌, ◌∷◌, List, subst, sym, ◌∙◌, arith}
use Rattle.std.specs.Prelude.{OnOk}
use Rattle.trans_seq.specs.Cells.{cells_of_repeat}
use Rattle.trans_seq.specs.Windows.{is_end}
use Rattle.trans_auto.specs.declared.marks.ItemCells.{ItemCells}
use Rattle.trans_auto.specs.Layout.{IsLaid, ItemsLaid, Grows}
use Rattle.trans_auto.proofs.Slices.{others, split, is_end-length}
use Rattle.trans_auto.proofs.Growing.{grows-on}
use Rattle.trans_auto.proofs.marks.+lay_items.Goals as goal

pub returns-in_ok-push-in-len1-up : goal.returns-in_ok-push-in-len1-up
returns-in_ok-push-in-len1-up t c =
    let a = c.args in
    let items = a.items.now in
    let d = c.item-item.result in
    let one = c.cells_of_item.result in
    let new = c.lay_items.new.out.items in
    let size : c.cells.result ≡ cells_of_repeat d.repeat = c.cells.ensures in
    let end : c.is_empty.result ≡ is_end (others items) = c.is_empty.ensures ∙ is_end-length (others items) in
    let here : IsLaid a.base d.repeat (is_end (others items)) one = subst (λ b. IsLaid a.base d.repeat b one) end c.cells_of_item.ensures in
    let Q : List ItemCells → Type 0 = λ cells. ItemsLaid a.base (d ∷ others items) cells in
    let grown = grows-on c.lay_items.result a.out.now.items _ new one (λ cells. ItemsLaid (a.base + c.cells.result) (others items) cells) Q c.in_ok-push-in-len1-up.ensures.items
    (λ rest laid. (here, subst (λ n. ItemsLaid (a.base + n) (others items) rest) size laid)) c.lay_items.ensures in
    subst (λ xs. OnOk c.lay_items.result (Grows a.out.now.items new (λ cells. ItemsLaid a.base xs cells))) (sym (split items d (omega arith) c.item-item.is)) grown
