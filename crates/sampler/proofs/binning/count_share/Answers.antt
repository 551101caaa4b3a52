use Rattle.std.proofs.Common.{◌∙◌, List, ap, sym, subst, length}
use Rattle.std.specs.Prelude.{Option, ℤ}
use Rattle.sampler.specs.Starting.{AreUnknown}
use Rattle.sampler.proofs.Starts.{at_start}
use Rattle.sampler.proofs.binning.count_share.Goals as goal

pub walk-requires-clause-at : goal.walk-requires-clause-at
walk-requires-clause-at c =
    let value = c.as_mut_slice.ensures.value in
    at_start c.args.rec.now c.args.instances.now c.args.plans.now c.args.share.now c.as_mut_slice.result.now c.in_ok-kept.kept.items c.args.counts.now
    (ap (λ (xs : List (Option ℤ)). length xs) value ∙ c.in_ok-values.ensures.same) (subst AreUnknown (sym value) c.in_ok-values.ensures.unknown) (c.in_ok-kept.ensures.stand c.requires.zero)
