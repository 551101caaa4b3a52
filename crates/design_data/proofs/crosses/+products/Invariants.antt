use Rattle.std.proofs.Common.{◌≡◌, ◌∷◌, map, length}
use Rattle.std.specs.List.{flat_map, range_with_len}
use Rattle.design_data.proofs.crosses.+products.Given as goal

abbrev pub decreases-products : goal.decreases-products
decreases-products l = length l.sizes.now

abbrev pub invariant-loop-bin : goal.invariant-loop-bin
invariant-loop-bin l = l.all ≡ flat_map (λ bin. map (λ rest. bin ∷ rest) l.shorter) (range_with_len 0 l.bin)
