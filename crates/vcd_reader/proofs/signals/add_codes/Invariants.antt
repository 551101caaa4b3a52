use Rattle.std.proofs.Common.{length}
use Rattle.name_map.specs.Names.{meaning_of}
use Rattle.vcd_reader.specs.Refusals.{each}
use Rattle.vcd_reader.specs.Signals.{add_code}
use Rattle.vcd_reader.proofs.Each.{Left}
use Rattle.vcd_reader.proofs.signals.add_codes.Given as goal

abbrev pub invariant-loop-signal : goal.invariant-loop-signal
invariant-loop-signal l = Left (add_code (meaning_of l.vars)) l.rest l.found (each (add_code (meaning_of l.vars)) l.signals l.initial.found)

abbrev pub decreases-loop-signal : goal.decreases-loop-signal
decreases-loop-signal l = length l.rest
