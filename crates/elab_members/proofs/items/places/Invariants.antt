use Rattle.std.proofs.Common.{◌≡◌, [], drop}
use Rattle.name_map.specs.Names.{with_names}
use Rattle.elab_members.specs.Items.{places_from}
use Rattle.elab_members.proofs.items.places.Given as goal

abbrev pub invariant-loop-place : goal.invariant-loop-place
invariant-loop-place l = with_names l.places (places_from l.place (drop l.place l.names)) ≡ with_names [] (places_from 0 l.names)
