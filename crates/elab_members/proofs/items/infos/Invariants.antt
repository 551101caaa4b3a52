use Rattle.std.proofs.Common.{◌≡◌, map}
use Rattle.elab_members.proofs.items.infos.Given as goal

abbrev pub invariant-loop-made : goal.invariant-loop-made
invariant-loop-made l = l.infos ≡ map (λ made. made.bin) l.yielded
