use Rattle.std.proofs.Common.{◌∙◌, List, ap, sym}
use Rattle.std.specs.Prelude.{slice_get}
use Rattle.design_data.specs.declared.infos.InstInfo.{InstInfo}
use Rattle.sampler.proofs.Parts.{few_items}
use Rattle.sampler.proofs.binning.part_counts.Goals as goal

pub share_of-requires-clause-few : goal.share_of-requires-clause-few
share_of-requires-clause-few c = λ j inst e. few_items c.args.design.now j inst (ap (λ (xs : List InstInfo). slice_get xs j) (sym c.instances.ensures) ∙ e)
