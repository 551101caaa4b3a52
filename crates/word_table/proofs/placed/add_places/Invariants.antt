use Rattle.std.proofs.Common.{◌≡◌, ◌++◌, take}
use Rattle.std.specs.Prelude.{map, slice_index}
use Rattle.word_table.proofs.placed.add_places.Given as goal

abbrev pub invariant-loop-hit : goal.invariant-loop-hit
invariant-loop-hit l = l.met.items ≡ l.initial.met.items ++ map (λ hit. slice_index l.places hit) (take l.hit-index l.hits)
