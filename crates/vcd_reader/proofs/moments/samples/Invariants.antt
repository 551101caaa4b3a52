use Rattle.std.proofs.Common.{◌≡◌, ◌+◌, ◌++◌, length}
use Rattle.vcd_reader.specs.Held.{shown}
use Rattle.vcd_reader.specs.Moments.{samples_from}
use Rattle.vcd_reader.proofs.moments.samples.Given as goal

abbrev pub invariant-loop-event : goal.invariant-loop-event
invariant-loop-event l = record {
  so_far : l.samples.items ++ samples_from l.env (shown l.step.codes.now l.step.before.now) (shown l.step.codes.now l.step.after.now) l.instance l.rest
      ≡ samples_from l.env (shown l.step.codes.now l.step.before.now) (shown l.step.codes.now l.step.after.now) 0 l.events;
  counted : l.instance + length l.rest ≡ length l.events;
}

abbrev pub decreases-loop-event : goal.decreases-loop-event
decreases-loop-event l = length l.rest
