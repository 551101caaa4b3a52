use Rattle.std.proofs.Common.{◌≡◌, map, take}
use Rattle.elab_members.specs.Domains.{constant_of}
use Rattle.elab_members.proofs.domains.constants_of.Given as goal

abbrev pub invariant-loop-constant : goal.invariant-loop-constant
invariant-loop-constant l = l.constants.items ≡ map constant_of (take l.constant-index l.enumeration.constants)
