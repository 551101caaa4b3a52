-- The events of all instances of a text (IEEE 1800-2017, 19.3), bound to the signals that they watch.
use Rattle.std.specs.Prelude.{ℕ, List, [], ◌∷◌, length, Option, Some, None, Result, Ok, Err}
use Rattle.cov_tree.specs.declared.groups.EdgeText.{EdgeText}
use Rattle.cov_tree.specs.declared.declarations.Decl.{Decl}
use Rattle.const_eval.specs.Scopes.{Levels, names_of}
use Rattle.design_data.specs.declared.infos.InstInfo.{InstInfo}
use Rattle.elab_base.specs.Gives.{Refusal}
use Rattle.cov_design.specs.Events.{event_levels}
use Rattle.vcd_reader.specs.declared.watching.Watch.{Watch}
use Rattle.vcd_reader.specs.declared.watching.Watches.{Watches}
use Rattle.vcd_reader.specs.Watching.{all_watched, group_event, with_event}

abbrev pub watched_in : Result Levels Refusal → List EdgeText → Option (List Watch)
watched_in (Err fault) edges = None
watched_in (Ok levels) edges = all_watched (names_of levels) edges []

-- the event of the instance of a number, by what the instance's event sees; a group without an event has no edges
abbrev pub event_watched : List Decl → (instance : ℕ) → List EdgeText → Option (List Watch)
event_watched text instance [] = Some []
event_watched text instance (edge ∷ edges) = watched_in (event_levels text instance) (edge ∷ edges)

unfoldable pub add_event : List Decl → InstInfo → Watches → Watches
add_event text instance found = with_event found instance.group (event_watched text (length found.events) (group_event text instance.group))

-- the events of all instances in order, and the groups of those whose event can't be watched
abbrev pub all_events : List Decl → List InstInfo → Watches → Watches
all_events text [] found = found
all_events text (instance ∷ instances) found = all_events text instances (add_event text instance found)
