use Rattle.std.proofs.Common.{take}
use Rattle.design_data.specs.Tested.{AreSignalsWide}
use Rattle.design_data.proofs.items.are_signals_wide.Given as goal

abbrev pub invariant-loop-signal : goal.invariant-loop-signal
invariant-loop-signal l = AreSignalsWide (take l.signal-index l.signals)
