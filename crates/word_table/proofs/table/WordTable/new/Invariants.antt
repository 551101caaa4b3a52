use Rattle.std.proofs.Common.{◌≤◌, ◌*◌, length, take}
use Rattle.std.specs.Prelude.{map}
use Rattle.word_table.specs.Tables.{Holds}
use Rattle.word_table.proofs.table.WordTable.new.Given as goal

abbrev pub invariant-loop-row : goal.invariant-loop-row
invariant-loop-row l = record {
  holds : Holds (map (λ row. row.word) (take l.row-index l.rows)) l.starts.items l.values.items;
  len : length l.values.items ≤ 120 * l.row-index;
}
