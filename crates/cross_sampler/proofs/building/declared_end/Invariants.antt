use Rattle.std.proofs.Common.{◌≡◌, ℕ, ◌<◌, ◌≤◌, false, Some}
use Rattle.std.specs.Prelude.{slice_get}
use Rattle.design_data.specs.declared.infos.BinInfo.{BinInfo}
use Rattle.cross_sampler.specs.Plans.{is_picked}
use Rattle.cross_sampler.proofs.building.declared_end.Given as goal

abbrev pub invariant-loop-bin : goal.invariant-loop-bin
invariant-loop-bin l = record {
  within : l.end ≤ l.bin;
  none : (b : ℕ) (bin : BinInfo) → l.end ≤ b → b < l.bin → slice_get l.bins b ≡ Some bin → is_picked bin.rule ≡ false;
}
