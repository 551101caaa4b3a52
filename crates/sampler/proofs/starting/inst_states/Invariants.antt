use Rattle.std.proofs.Common.{◌≡◌, ℕ, ◌<◌, length, get_or}
use Rattle.sampler.specs.declared.instance.InstState.{InstState}
use Rattle.sampler.specs.Starting.{AreAllZero}
use Rattle.sampler.proofs.Starts.{InstFitsAt, InstStartsAt}
use Rattle.sampler.proofs.starting.inst_states.Given as goal

abbrev pub invariant-loop-j : goal.invariant-loop-j
invariant-loop-j l = record {
  same : length l.kept.items ≡ l.j;
  fits : (j : ℕ) (k : InstState) → j < l.j → InstFitsAt l.instances l.plans l.share j (get_or l.kept.items j k);
  stands : AreAllZero l.counts → (j : ℕ) (k : InstState) → j < l.j → InstStartsAt l.instances l.plans l.share l.counts j (get_or l.kept.items j k);
}
