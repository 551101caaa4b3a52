use Rattle.std.proofs.Common.{◌≡◌, map}
use Rattle.std.specs.List.{range_with_len}
use Rattle.ucis_model.specs.Paths.{path_of}
use Rattle.ucis_model.proofs.index.places.Given as goal

abbrev pub invariant-loop-place : goal.invariant-loop-place
invariant-loop-place l = l.places.items ≡ map (λ place. (path_of l.nodes place, place)) (range_with_len 0 l.place)
