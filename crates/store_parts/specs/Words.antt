-- What a store holds, as what it stands for.
use Rattle.std.specs.Arc.{arc_value}
use Rattle.cov_history.specs.declared.entry.Event.{Event}
use Rattle.cov_history.specs.declared.entry.Event.TheVariants as event
use Rattle.cov_history.specs.declared.entry.Entry.{Entry}
use Rattle.cov_history.specs.History.{Test}
use Rattle.store_parts.specs.declared.held.Held.{Held}
use Rattle.store_parts.specs.declared.held.HeldEvent.{HeldEvent}
use Rattle.store_parts.specs.declared.held.HeldEvent.TheVariants.{Admit, Exclude, Include, Revise}
use Rattle.store_parts.specs.declared.held.Kept.{Kept}

abbrev pub event_of : HeldEvent → Event
event_of (Admit r) = event.Admit (arc_value r)
event_of (Exclude path) = event.Exclude (arc_value path)
event_of (Include path) = event.Include (arc_value path)
event_of (Revise text design) = event.Revise (record { text = text; design = arc_value design })

abbrev pub entry_of : Held → Entry
entry_of h = record { caller = h.caller; event = event_of h.event }

abbrev pub test_of : Kept → Test
test_of k = record { point = k.point; content = arc_value k.rec }
