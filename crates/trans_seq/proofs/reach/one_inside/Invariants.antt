use Rattle.std.proofs.Common.{◌≡◌, ℕ, ◌+◌, ◌<◌, length, ◌&&◌, get_or, false, None}
use Rattle.trans_seq.specs.Windows.{is_known_in}
use Rattle.trans_seq.proofs.reach.one_inside.Given as goal

abbrev pub invariant-loop-k : goal.invariant-loop-k
invariant-loop-k l = record {
  len : length l.next.items ≡ length l.window + 1;
  first : get_or l.next.items 0 false ≡ false;
  done : (j : ℕ) → j < l.k → get_or l.next.items (j + 1) false ≡ (get_or l.cuts j false && is_known_in l.set (get_or l.window j None));
}
