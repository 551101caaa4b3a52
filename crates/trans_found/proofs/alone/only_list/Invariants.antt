use Rattle.std.proofs.Common.{◌≡◌, [], ◌∷◌, take}
use Rattle.trans_found.specs.Held.{words}
use Rattle.trans_found.proofs.alone.only_list.Given as goal

abbrev pub invariant-loop-item : goal.invariant-loop-item
invariant-loop-item l = words (take l.item-index l.items) ≡ l.list.items ∷ []
