use Rattle.std.proofs.Common.{List, length, ap, arith}
use Rattle.name_map.specs.Names.{meaning_of}
use Rattle.design_data.specs.declared.infos.Signal.{Signal}
use Rattle.vcd_reader.specs.Signals.{vars_in}
use Rattle.vcd_reader.proofs.Instances.{watches_long, codes_long}
use Rattle.vcd_reader.proofs.recording.record_of.Goals as goal

pub made_of-requires-clause-events : goal.made_of-requires-clause-events
made_of-requires-clause-events c =
    let design = c.args.design.now in
    let long = watches_long c.args.text.now design.instances c.in_ok-found.found c.in_ok-found.ensures in
    omega (arith, long, design.within.instance_count)

pub made_of-requires-clause-signals : goal.made_of-requires-clause-signals
made_of-requires-clause-signals c =
    let design = c.args.design.now in
    let long = codes_long (meaning_of (vars_in c.args.scope.now c.as_slice.result.now)) c.signals.result.now c.in_ok-codes.codes c.in_ok-codes.ensures in
    let same = ap (λ (signals : List Signal). length signals) c.signals.ensures in
    omega (arith, long, same, design.within.signal_count)
