use Rattle.std.proofs.Common.{◌≡◌}
use Rattle.sampler_plans.specs.Shares.{chosen_items}
use Rattle.sampler_plans.proofs.sharing.chosen_of.Given as goal

abbrev pub invariant-loop-index : goal.invariant-loop-index
invariant-loop-index l = l.chosen.items ≡ chosen_items l.labels l.parts l.part l.index
