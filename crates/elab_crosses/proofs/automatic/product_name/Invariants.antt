use Rattle.std.proofs.Common.{◌≡◌, ◌++◌, drop}
use Rattle.elab_crosses.specs.Removal.{member_names}
use Rattle.elab_crosses.proofs.automatic.product_name.Given as goal

abbrev pub invariant-loop-bin : goal.invariant-loop-bin
invariant-loop-bin l = record {
  same : l.axis ≡ l.bin-index;
  rest : l.text ++ member_names l.separator l.names l.axis (drop l.bin-index l.product) ≡ member_names 60 l.names 0 l.product;
}
