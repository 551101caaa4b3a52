use Rattle.std.proofs.Common.{◌≡◌, take}
use Rattle.elab_values.proofs.domain.copies.Given as goal

abbrev pub invariant-loop-constant : goal.invariant-loop-constant
invariant-loop-constant l = l.copies.items ≡ take l.constant-index l.constants
