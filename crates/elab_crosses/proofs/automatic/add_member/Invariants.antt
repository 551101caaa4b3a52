use Rattle.std.proofs.Common.{◌≡◌, ◌++◌, take}
use Rattle.elab_crosses.proofs.automatic.add_member.Given as goal

abbrev pub invariant-loop-byte : goal.invariant-loop-byte
invariant-loop-byte l = l.text ≡ l.initial.text ++ take l.byte-index l.name
