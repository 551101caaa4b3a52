use Rattle.std.proofs.Common.{◌≡◌, ℕ, ◌<◌, Some}
use Rattle.std.specs.Prelude.{slice_get}
use Rattle.design_data.specs.declared.infos.ItemInfo.{ItemInfo}
use Rattle.sampler.specs.Shares.{IsTogether}
use Rattle.sampler_threads.proofs.labels.are_items_together.Given as goal

abbrev pub invariant-loop-index : goal.invariant-loop-index
invariant-loop-index l = (k : ℕ) (item : ItemInfo) → k < l.index → slice_get l.items k ≡ Some item → IsTogether l.labels k item.shape
