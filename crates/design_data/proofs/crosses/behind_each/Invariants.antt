use Rattle.std.proofs.Common.{◌≡◌, ◌∷◌, map, take}
use Rattle.design_data.proofs.crosses.behind_each.Given as goal

abbrev pub invariant-loop-rest : goal.invariant-loop-rest
invariant-loop-rest l = l.all ≡ map (λ rest. l.bin ∷ rest) (take l.rest-index l.products)
