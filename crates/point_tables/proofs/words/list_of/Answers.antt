use Rattle.std.proofs.Common.{◌≡◌, ◌<◌, ◌+◌, ◌++◌, ◌∷◌, [], Some, ap, sym, ◌∙◌, List, ℤ, length, take}
use Rattle.std.proofs.lemmas.List.{take_more}
use Rattle.trans_seq.specs.declared.seq.Item.{Item}
use Rattle.trans_seq.specs.Words.{word_of}
use Rattle.point_tables.proofs.OnlyLists.{word_more}
use Rattle.point_tables.proofs.words.list_of.Goals as goal

pub loop-item-preserved : goal.loop-item-preserved
loop-item-preserved c =
    let items = c.args.items.now in
    let i = c.loop-item.item-index in
    let item = c.item-item.result in
    let lt : i < length items = c.loop-item-test.true in
    let more : take (i + 1) items ≡ take i items ++ item ∷ [] = take_more items i item lt ∙ ap (λ (x : Item). take i items ++ x ∷ []) (sym c.item-item.is) in
    ap word_of more ∙ word_more (take i items) item c.loop-item.values.items c.in-Some.value c.loop-item.invariant (sym c.value_of.ensures ∙ c.in-Some.is) ∙ ap (λ (u : List ℤ). Some u) (sym c.in_ok-push.ensures.items)
