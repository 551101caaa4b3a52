use Rattle.std.proofs.Common.{◌≡◌, ◌+◌, ◌≤◌, length}
use Rattle.vcd_reader.specs.Watching.{first_of}
use Rattle.vcd_reader.proofs.watching.first_of.Given as goal

abbrev pub invariant-loop-decl : goal.invariant-loop-decl
invariant-loop-decl l = record {
  same : first_of l.bad l.rest l.group ≡ first_of l.bad l.text 0;
  few : l.group + length l.rest ≤ length l.text;
}

abbrev pub decreases-loop-decl : goal.decreases-loop-decl
decreases-loop-decl l = length l.rest
