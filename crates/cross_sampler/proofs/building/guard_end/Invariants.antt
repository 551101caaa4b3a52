use Rattle.std.proofs.Common.{◌≡◌, ℕ, ◌<◌, ◌≤◌, None, Some}
use Rattle.std.specs.Prelude.{slice_get}
use Rattle.design_data.specs.declared.infos.BinInfo.{BinInfo}
use Rattle.cross_sampler.proofs.building.guard_end.Given as goal

abbrev pub invariant-loop-bin : goal.invariant-loop-bin
invariant-loop-bin l = record {
  within : l.guards ≤ l.bin;
  none : (b : ℕ) (bin : BinInfo) → l.guards ≤ b → b < l.bin → slice_get l.bins b ≡ Some bin → bin.guard ≡ None;
}
