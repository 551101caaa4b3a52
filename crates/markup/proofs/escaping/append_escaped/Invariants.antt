-- what is written is that of the bytes that were passed
use Rattle.std.proofs.Common.{◌≡◌, ◌++◌, take}
use Rattle.markup.specs.Escaping.{escape}
use Rattle.markup.proofs.escaping.append_escaped.Given as goal

abbrev pub invariant-loop-byte : goal.invariant-loop-byte
invariant-loop-byte l = l.text.items ≡ l.fn.text.items ++ escape (take l.byte-index l.bytes)
