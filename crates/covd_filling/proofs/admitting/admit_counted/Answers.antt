use Rattle.std.proofs.Common.{◌∙◌}
use Rattle.std.specs.Arc.{arc_value}
use Rattle.cov_history.specs.Tables.{fits}
use Rattle.covd_filling.proofs.Fitting.{fits_is}
use Rattle.covd_filling.proofs.admitting.admit_counted.Goals as goal

pub admit_prepared-requires-clause-fits : goal.admit_prepared-requires-clause-fits
admit_prepared-requires-clause-fits c =
    let under = c.in_ok-prepared.ensures.design in
    let of = c.in_ok-prepared.ensures.of in
    (λ i. fits (under i) (of i)) ∙ fits_is (arc_value c.args.design.now) c.args.counted.rec c.requires.fits
