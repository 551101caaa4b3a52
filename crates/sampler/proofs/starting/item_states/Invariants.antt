use Rattle.std.proofs.Common.{◌≡◌, ℕ, ◌<◌, List, length, get_or}
use Rattle.record_codec.specs.Samples.{Env}
use Rattle.sampler.specs.declared.instance.ItemState.{ItemState}
use Rattle.sampler.specs.Starting.{AreAllZero}
use Rattle.sampler.proofs.Starts.{FitsAt, StartsAt}
use Rattle.sampler.proofs.starting.item_states.Given as goal

abbrev pub invariant-loop-i : goal.invariant-loop-i
invariant-loop-i l = record {
  same : length l.states.items ≡ l.i;
  fits : (i : ℕ) (s : ItemState) → i < l.i → FitsAt l.items l.plans l.chosen i (get_or l.states.items i s);
  stands : (all : List Env) (counts : List ℕ) → AreAllZero counts → (i : ℕ) (s : ItemState) → i < l.i → StartsAt l.items l.plans l.chosen all counts i (get_or l.states.items i s);
}
