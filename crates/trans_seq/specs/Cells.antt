-- How large sequences are.
use Rattle.std.specs.Prelude.{◌≡◌, ℕ, ◌+◌, ◌*◌, List, [], ◌∷◌, ◌++◌}
use Rattle.trans_seq.specs.declared.seq.Item.{Item}
use Rattle.trans_seq.specs.declared.seq.Seq.{Seq}
use Rattle.trans_seq.specs.declared.seq.Repeat.{Repeat}
use Rattle.trans_seq.specs.declared.seq.Repeat.TheVariants.{Once, Consec, Goto, NonConsec}

-- how many cells an item has: one for each number of blocks, and one for the gap after them where there may be one
abbrev pub cells_of_repeat : Repeat → ℕ
cells_of_repeat Once = 1
cells_of_repeat (Consec low high) = high
cells_of_repeat (Goto low high) = 2 * high
cells_of_repeat (NonConsec low high) = 2 * high + 1

-- how many cells the items of a sequence have
abbrev pub cells_of_items : List Item → ℕ
cells_of_items [] = 0
cells_of_items (item ∷ items) = cells_of_repeat item.repeat + cells_of_items items

-- how many cells sequences have together
abbrev pub cells_of_seqs : List Seq → ℕ
cells_of_seqs [] = 0
cells_of_seqs (seq ∷ seqs) = cells_of_items seq.items + cells_of_seqs seqs

-- a law: lists of sequences that stand one behind the other have the sum of their cells
abbrev pub CellsAdd : Type 0
CellsAdd = (first rest : List Seq) → cells_of_seqs (first ++ rest) ≡ cells_of_seqs first + cells_of_seqs rest
