use Rattle.std.proofs.Common.{◌≡◌, ◌+◌, ℕ, List, length}
use Rattle.record_codec.specs.Samples.{Env}
use Rattle.design_data.specs.declared.infos.ItemInfo.{ItemInfo}
use Rattle.sampler_plans.specs.declared.plan.ItemPlan.{ItemPlan}
use Rattle.sampler.specs.declared.instance.ItemState.{ItemState}
use Rattle.sampler.specs.Standing.{IsSample, AllStand, SomeTaken}
use Rattle.sampler.specs.Walking.{IsInstWork}
use Rattle.sampler.specs.Quick.{AreQuick}
use Rattle.sampler.proofs.quick.count_items.Given as goal

abbrev pub invariant-loop-quick : goal.invariant-loop-quick
invariant-loop-quick l = record {
  same : length l.counts ≡ length l.initial.counts;
  taken : (items : List ItemInfo) (plans : List ItemPlan) (chosen : List ℕ) (states : List ItemState) (all : List Env) (m : ℕ) → IsInstWork items plans chosen (length l.initial.counts) → AreQuick l.exprs items plans chosen l.list
      → length states ≡ length chosen → IsSample all m l.env → AllStand items plans chosen all (λ shape. m) states l.initial.counts
      → SomeTaken items plans chosen all (λ shape. m) (λ shape. m + 1) l.quick-index l.initial.counts states l.counts;
}
