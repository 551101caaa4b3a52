use Rattle.std.proofs.Common.{◌≡◌, length}
use Rattle.vcd_dump.specs.Packing.{items_in}
use Rattle.vcd_dump.specs.Body.{changes_of}
use Rattle.vcd_reader.specs.Held.{applied}
use Rattle.vcd_reader.proofs.held.apply.Given as goal

abbrev pub invariant-loop-change : goal.invariant-loop-change
invariant-loop-change l = applied (changes_of (items_in l.rest)) l.table ≡ applied (changes_of (items_in l.changes)) l.initial.table

abbrev pub decreases-loop-change : goal.decreases-loop-change
decreases-loop-change l = length l.rest
