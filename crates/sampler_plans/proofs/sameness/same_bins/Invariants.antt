use Rattle.std.proofs.Common.{◌≡◌, ℕ, ◌<◌, get_or}
use Rattle.design_data.specs.declared.infos.BinInfo.{BinInfo}
use Rattle.sampler_plans.proofs.sameness.same_bins.Given as goal

abbrev pub invariant-loop-k : goal.invariant-loop-k
invariant-loop-k l = (j : ℕ) (d : BinInfo) → j < l.k → get_or l.first j d ≡ get_or l.second j d
