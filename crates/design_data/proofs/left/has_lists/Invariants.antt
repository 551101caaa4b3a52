use Rattle.std.proofs.Common.{◌≡◌, take, true}
use Rattle.std.specs.List.{list_all}
use Rattle.trans_seq.specs.declared.seq.Item.{Item}
use Rattle.design_data.specs.Left.{has_numbers}
use Rattle.design_data.proofs.left.has_lists.Given as goal

abbrev pub invariant-loop-item : goal.invariant-loop-item
invariant-loop-item l = list_all (λ (item : Item). has_numbers item.set) (take l.item-index l.seq.items) ≡ true
