use Rattle.std.proofs.Common.{◌≡◌, ◌≤◌, ◌+◌, ◌-◌, ◌^◌, min, drop}
use Rattle.trans_seq.specs.Cells.{cells_of_items}
use Rattle.trans_seq.proofs.size.cells_of_items.Given as goal

-- the sum so far and that of the items left give the result
abbrev pub invariant-loop-item : goal.invariant-loop-item
invariant-loop-item l = record {
  left : min (l.sum + cells_of_items (drop l.item-index l.items)) (2 ^ 64 - 1) ≡ min (cells_of_items l.items) (2 ^ 64 - 1);
  fits : l.sum ≤ 2 ^ 64 - 1;
}
