use Rattle.std.proofs.Common.{◌≡◌, List}
use Rattle.std.specs.List.{list_any, flat_map}
use Rattle.design_data.specs.declared.infos.BinInfo.{BinInfo}
use Rattle.design_data.specs.Crosses.{picks}
use Rattle.product_bits.specs.Marks.{Marks}
use Rattle.elab_crosses.specs.Free.{IsFree}
use Rattle.elab_crosses.specs.Removal.{infos, left_of}
use Rattle.elab_crosses.proofs.left.keep_all.Given as goal

abbrev pub invariant-loop-made : goal.invariant-loop-made
invariant-loop-made l = record {
  kept : (all : List BinInfo) → IsFree l.sizes all l.free → l.kept ≡ flat_map (left_of l.sizes all) l.yielded;
  picked : Marks l.sizes (λ product. list_any (λ bin. picks product bin.rule) (infos l.yielded)) l.picked;
}
