use Rattle.std.proofs.Common.{◌≡◌, ap, sym, subst, ◌∙◌, List, ℤ}
use Rattle.std.specs.Prelude.{map}
use Rattle.std.specs.List.Sorted.{IsPermutation}
use Rattle.word_table.specs.declared.row.PlacedWord.{PlacedWord}
use Rattle.word_table.specs.Tables.{AreWords}
use Rattle.word_table.specs.Placed.{rows_of}
use Rattle.word_table.proofs.Sorting.{words_moved}
use Rattle.word_table.proofs.Placing.{rows_back}
use Rattle.word_table.proofs.placed.PlacedWords.new.Goals as goal

pub new-requires : goal.new-requires
new-requires c =
    subst (λ (rows : List PlacedWord). AreWords (map (λ row. row.word) rows)) (sym c.as_slice.ensures.value)
    (words_moved c.args.rows.items c.sort.new.rows.items c.sort.ensures.permutation c.sort.ensures.sorted c.requires)

pub returns : goal.returns
returns c =
    let moved = c.sort.new.rows.items in
    let words : c.in_ok-words.words ≡ map (λ (row : PlacedWord). row.word) moved = c.in_ok-words.ensures ∙ ap (map (λ (row : PlacedWord). row.word)) c.as_slice.ensures.value in
    let places : c.in_ok-places.places.items ≡ map (λ (row : PlacedWord). row.place) moved = c.in_ok-places.ensures ∙ ap (map (λ (row : PlacedWord). row.place)) c.as_slice-2.ensures.value in
    subst (IsPermutation c.args.rows.items) (sym (ap (λ (ws : List (List ℤ)). rows_of ws c.in_ok-places.places.items) words ∙ ap (rows_of (map (λ (row : PlacedWord). row.word) moved)) places ∙ rows_back moved)) c.sort.ensures.permutation
