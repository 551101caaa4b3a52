use Rattle.std.proofs.Common.{◌≡◌, ◌+◌, length}
use Rattle.trans_seq.proofs.ReachLemmas.{Left}
use Rattle.trans_seq.proofs.reach.window_in.Given as goal

abbrev pub invariant-loop-i : goal.invariant-loop-i
invariant-loop-i l = record {
  size : length l.cuts.items ≡ length l.window + 1;
  left : Left l.items l.window l.cuts.items l.i;
}
