use Rattle.std.proofs.Common.{take}
use Rattle.std.specs.List.{list_any}
use Rattle.product_bits.specs.Marks.{Marks}
use Rattle.elab_crosses.specs.Removal.{infos, takes}
use Rattle.elab_crosses.proofs.left.free_for.Given as goal

abbrev pub invariant-loop-made : goal.invariant-loop-made
invariant-loop-made l = Marks l.sizes (λ product. list_any (takes l.kind product) (infos (take l.made-index l.bins))) l.taken
