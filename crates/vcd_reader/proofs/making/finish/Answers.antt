use Rattle.std.proofs.Common.{sym, subst}
use Rattle.record_codec.specs.Starts.{with_events, size_with}
use Rattle.vcd_dump.specs.declared.fault.DumpFault.{DumpFault}
use Rattle.vcd_reader.specs.Refusals.{Fails}
use Rattle.vcd_reader.specs.Starting.{limited}
use Rattle.vcd_reader.proofs.Limited.{made_is, refused_is}
use Rattle.vcd_reader.proofs.making.finish.Goals as goal

pub returns-in-Ok : goal.returns-in-Ok
returns-in-Ok c = λ start events h. made_is c.in-Ok.made start events (c.in-Ok.ensures start events h)

pub returns-in-Err : goal.returns-in-Err
returns-in-Err c = λ start events h.
    subst (λ (fault : DumpFault). Fails fault (limited (with_events start events) (size_with start events))) (sym c.refused.ensures) (refused_is c.in-Err.fault start events (c.in-Err.ensures start events h))
