use Rattle.std.proofs.Common.{◌∙◌}
use Rattle.std.specs.Prelude.{slice_index}
use Rattle.store_sums.proofs.sums.Sums.count.Goals as goal

pub returns : goal.returns
returns c =
    let s = c.args.self.now in
    c.number_at.ensures ∙ (λ i. slice_index (c.as_slice.ensures.value i) (c.facts.ensures i).first_bin)
