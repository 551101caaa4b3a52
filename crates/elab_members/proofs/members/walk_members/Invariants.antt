use Rattle.std.proofs.Common.{◌≡◌}
use Rattle.design_data.specs.Tested.{HaveFewBins}
use Rattle.elab_base.specs.Gives.{each}
use Rattle.elab_members.specs.Items.{no_items}
use Rattle.elab_members.specs.Members.{member}
use Rattle.elab_base.proofs.Folds.{Left}
use Rattle.elab_members.proofs.members.walk_members.Given as goal

abbrev pub invariant-loop-found : goal.invariant-loop-found
invariant-loop-found l = record {
  walk : Left (λ k. member l.initial.outside l.inside) l.found-index l.members l.items (each (member l.initial.outside l.inside) l.members (no_items l.fn.counts));
  same : l.outside ≡ l.initial.outside;
  few : HaveFewBins l.items.items;
}
