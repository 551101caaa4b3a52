use Rattle.std.proofs.Common.{◌≡◌, ◌<◌, ◌≤◌, ◌+◌, ap, sym, subst, ◌∙◌, List, [], ◌∷◌, ◌++◌, ℤ, length, get_or, take, arith}
use Rattle.std.specs.Prelude.{map}
use Rattle.std.proofs.lemmas.List.{length-map, get_or-map, map_more}
use Rattle.word_table.specs.declared.row.PlacedWord.{PlacedWord}
use Rattle.word_table.specs.Tables.{Holds}
use Rattle.word_table.proofs.table.WordTable.new.Goals as goal

pub add_word-requires : goal.add_word-requires
add_word-requires c =
    let rows = c.args.rows.now in
    let i = c.loop-row.row-index in
    let word : PlacedWord → List ℤ = λ row. row.word in
    let lt : i < length rows = c.loop-row-test.true in
    let short : length (get_or (map word rows) i []) ≤ 120 = c.requires.short i [] (omega (arith, lt, length-map rows word)) in
    let is : get_or (map word rows) i [] ≡ c.row-item.result.word = get_or-map word rows i c.row-item.result [] lt ∙ ap word (sym c.row-item.is) in
    omega (arith, c.loop-row.invariant.len, lt, c.requires.few, length-map rows word, short, ap (λ (x : List ℤ). length x) is, ap (λ (x : List ℤ). length x) c.as_slice.ensures)

pub loop-row-preserved : goal.loop-row-preserved
loop-row-preserved c =
    let rows = c.args.rows.now in
    let i = c.loop-row.row-index in
    let word : PlacedWord → List ℤ = λ row. row.word in
    let lt : i < length rows = c.loop-row-test.true in
    let short : length (get_or (map word rows) i []) ≤ 120 = c.requires.short i [] (omega (arith, lt, length-map rows word)) in
    let is : get_or (map word rows) i [] ≡ c.row-item.result.word = get_or-map word rows i c.row-item.result [] lt ∙ ap word (sym c.row-item.is) in
    let more : map word (take (i + 1) rows) ≡ map word (take i rows) ++ c.as_slice.result.now ∷ [] =
    map_more word rows i c.row-item.result lt ∙ ap (λ (x : List ℤ). map word (take i rows) ++ x ∷ []) (ap word (sym c.row-item.is) ∙ sym c.as_slice.ensures) in
    record {
      holds = subst (λ (words : List (List ℤ)). Holds words c.add_word.new.starts.items c.add_word.new.values.items) (sym more) (c.in_ok-add_word.ensures.holds (map word (take i rows)) c.loop-row.invariant.holds);
      len = omega (arith, c.in_ok-add_word.ensures.len, c.loop-row.invariant.len, short, ap (λ (x : List ℤ). length x) is, ap (λ (x : List ℤ). length x) c.as_slice.ensures);
    }
