use Rattle.trans_found.specs.Found.{Merges, lists_of}
use Rattle.trans_found.specs.Held.{AreHeld}
use Rattle.trans_lists.proofs.listing.merged.Given as goal

abbrev pub invariant-loop-place : goal.invariant-loop-place
invariant-loop-place l = record {
  merges : Merges l.seqs l.place l.found;
  held : AreHeld l.known (lists_of l.found);
}
