use Rattle.std.proofs.Common.{◌≡◌, ℕ, ◌<◌, Some}
use Rattle.std.specs.Prelude.{slice_get}
use Rattle.design_data.specs.declared.infos.InstInfo.{InstInfo}
use Rattle.sampler.specs.Shares.{labels_at, AreItemsTogether}
use Rattle.sampler_threads.proofs.labels.are_together.Given as goal

abbrev pub invariant-loop-index : goal.invariant-loop-index
invariant-loop-index l = (k : ℕ) (inst : InstInfo) → k < l.index → slice_get l.instances k ≡ Some inst → AreItemsTogether inst.items (labels_at l.labels k)
