use Rattle.std.proofs.Common.{◌≡◌, ◌++◌, take}
use Rattle.covd_commands.specs.Unadmitted.{hexadecimal}
use Rattle.covd_commands.proofs.unadmitted.append_hexadecimal.Given as goal

abbrev pub invariant-loop-byte : goal.invariant-loop-byte
invariant-loop-byte l = l.text.items ≡ l.initial.text.items ++ hexadecimal (take l.byte-index l.bytes)
