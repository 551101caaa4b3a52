use Rattle.std.proofs.Common.{◌≡◌, map, take}
use Rattle.elab_members.proofs.items.origins.Given as goal

abbrev pub invariant-loop-made : goal.invariant-loop-made
invariant-loop-made l = l.from ≡ map (λ made. made.declared) (take l.made-index l.bins)
