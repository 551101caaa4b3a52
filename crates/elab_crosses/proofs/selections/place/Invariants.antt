use Rattle.std.proofs.Common.{◌≡◌, drop}
use Rattle.elab_crosses.specs.Selections.{place_from}
use Rattle.elab_crosses.proofs.selections.place.Given as goal

abbrev pub invariant-loop-other : goal.invariant-loop-other
invariant-loop-other l = record {
  same : l.place ≡ l.other-index;
  rest : place_from l.place (drop l.other-index l.names) l.name ≡ place_from 0 l.names l.name;
}
