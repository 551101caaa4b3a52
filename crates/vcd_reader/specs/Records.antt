-- The record of a dump.
use Rattle.std.specs.Prelude.{ℕ, List, [], map, Option, Some, None, Result, Ok, Err}
use Rattle.name_map.specs.Names.{meaning_of}
use Rattle.cov_tree.specs.declared.declarations.DesignText.{DesignText}
use Rattle.design_data.specs.declared.infos.InstInfo.{InstInfo}
use Rattle.design_data.specs.declared.design.Design.{Design}
use Rattle.record_codec.specs.declared.record.Fields.{Fields}
use Rattle.record_codec.specs.Starts.{with_events, size_with}
use Rattle.vcd_dump.specs.declared.dump.Dump.{Dump}
use Rattle.vcd_dump.specs.declared.fault.DumpFault.{DumpFault}
use Rattle.vcd_dump.specs.declared.fault.DumpFault.TheVariants.{BadEvent}
use Rattle.vcd_reader.specs.declared.watching.Watches.{Watches}
use Rattle.vcd_reader.specs.Signals.{vars_in, codes_of}
use Rattle.vcd_reader.specs.Watching.{first_of}
use Rattle.vcd_reader.specs.Events.{all_events}
use Rattle.vcd_reader.specs.Moments.{events_of}
use Rattle.cov_counting.specs.Tables.{signal_row}
use Rattle.vcd_reader.specs.Starting.{start_of, limited}
use Rattle.vcd_reader.specs.Refusals.{◌>>=◌}

-- the first group whose event can't be watched
abbrev pub unless_bad : Option ℕ → Watches → Result Watches DumpFault
unless_bad (Some at) found = Err (BadEvent at)
unless_bad None found = Ok found

abbrev pub nothing_found : Watches
nothing_found = record { events = []; bad = [] }

unfoldable pub watches_of : DesignText → List InstInfo → Result Watches DumpFault
watches_of text instances =
    let found = all_events text.decls instances nothing_found in
    unless_bad (first_of found.bad text.decls 0) found

-- the fields of the record by the codes of the signals and the events of the instances, where it is within its limits
unfoldable pub made_of : Design → Dump → (id : List ℕ) → (codes : List ℕ) → Watches → Result Fields DumpFault
made_of design dump id codes found =
    let start = start_of design dump id in
    let events = events_of (map signal_row design.signals) codes found.events dump.steps in
    limited (with_events start events) (size_with start events)

-- the fields of the record of a dump, or the first refusal
unfoldable pub recorded : DesignText → Design → Dump → (scope id : List ℕ) → Result Fields DumpFault
recorded text design dump scope id = do
  found ← watches_of text design.instances
  codes ← codes_of (meaning_of (vars_in scope dump.vars)) design.signals
  made_of design dump id codes found
