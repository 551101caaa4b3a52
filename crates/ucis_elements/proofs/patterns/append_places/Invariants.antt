use Rattle.std.proofs.Common.{◌≡◌, ◌≤◌, ◌++◌}
use Rattle.ucis_elements.specs.Numbers.{places_text}
use Rattle.ucis_elements.proofs.patterns.append_places.Given as goal

abbrev pub invariant-loop-place : goal.invariant-loop-place
invariant-loop-place l = (l.place ≤ 64) × (l.text.items ++ places_text l.pattern l.place ≡ l.fn.text.items ++ places_text l.pattern l.places)

abbrev pub decreases-loop-place : goal.decreases-loop-place
decreases-loop-place l = l.place
