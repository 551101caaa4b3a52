use Rattle.std.proofs.Common.{◌≡◌, map, take}
use Rattle.elab_values.specs.Domains.{constant_range}
use Rattle.elab_values.proofs.domain.ranges.Given as goal

abbrev pub invariant-loop-constant : goal.invariant-loop-constant
invariant-loop-constant l = l.ranges.items ≡ map constant_range (take l.constant-index l.constants)
