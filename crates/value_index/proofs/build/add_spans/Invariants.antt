use Rattle.std.proofs.Common.{take}
use Rattle.value_index.specs.Built.{SpansAdded}
use Rattle.value_index.proofs.build.add_spans.Given as goal

abbrev pub invariant-loop-span : goal.invariant-loop-span
invariant-loop-span l = SpansAdded l.cuts (take l.span-index l.spans) l.bin l.initial.rows l.rows
