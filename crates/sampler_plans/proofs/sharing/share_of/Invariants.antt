use Rattle.std.proofs.Common.{◌≡◌, ℕ, ◌<◌, List, length, get_or}
use Rattle.sampler_plans.specs.Shares.{chosen_items}
use Rattle.sampler_plans.proofs.Chosen.{ShareAt}
use Rattle.sampler_plans.proofs.sharing.share_of.Given as goal

abbrev pub invariant-loop-j : goal.invariant-loop-j
invariant-loop-j l = record {
  latest : l.known ≡ chosen_items l.known_labels l.parts l.part l.known_count;
  same : length l.share.items ≡ l.j;
  at : (j : ℕ) (own : List ℕ) → j < l.j → ShareAt l.instances l.labels l.parts l.part j (get_or l.share.items j own);
}
