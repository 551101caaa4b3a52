use Rattle.std.proofs.Common.{◌≡◌, ℕ, ◌<◌, ◌||◌, length, get_or, false}
use Rattle.trans_seq.proofs.reach.either.Given as goal

abbrev pub invariant-loop-k : goal.invariant-loop-k
invariant-loop-k l = record {
  len : length l.all.items ≡ length l.first;
  done : (j : ℕ) → j < l.k → get_or l.all.items j false ≡ (get_or l.first j false || get_or l.second j false);
}
