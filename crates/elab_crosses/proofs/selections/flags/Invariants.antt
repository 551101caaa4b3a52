use Rattle.std.proofs.Common.{◌≡◌, ◌++◌, drop}
use Rattle.elab_crosses.specs.Selections.{flags}
use Rattle.elab_crosses.proofs.selections.flags.Given as goal

abbrev pub invariant-loop-bin : goal.invariant-loop-bin
invariant-loop-bin l = record {
  same : l.k ≡ l.bin-index;
  rest : l.flags ++ flags l.wanted l.listed l.from l.k (drop l.bin-index l.bins) ≡ flags l.wanted l.listed l.from 0 l.bins;
}
