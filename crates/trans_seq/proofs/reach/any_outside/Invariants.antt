use Rattle.std.proofs.Common.{◌≡◌, ℕ, ◌+◌, ◌<◌, length, get_or, false}
use Rattle.trans_seq.specs.Windows.{is_known_in}
use Rattle.trans_seq.proofs.ReachLemmas.{opened}
use Rattle.trans_seq.proofs.reach.any_outside.Given as goal

abbrev pub invariant-loop-k : goal.invariant-loop-k
invariant-loop-k l = record {
  len : length l.next.items ≡ length l.window + 1;
  last : l.reached ≡ opened (is_known_in l.set) l.window l.cuts l.k;
  done : (j : ℕ) → j < l.k + 1 → get_or l.next.items j false ≡ opened (is_known_in l.set) l.window l.cuts j;
}
