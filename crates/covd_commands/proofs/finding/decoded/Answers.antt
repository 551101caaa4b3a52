use Rattle.covd_commands.proofs.Found.{unfit_is}
use Rattle.covd_commands.proofs.finding.decoded.Goals as goal

pub returns-in_ok-refused-in-Err-shape_fits : goal.returns-in_ok-refused-in-Err-shape_fits
returns-in_ok-refused-in-Err-shape_fits c =
    let h = c.in_ok-refused-in-Err-shape_fits.ensures in
    let u = unfit_is c.args.k c.args.design.now c.args.bytes.now c.in_ok-refused-in-Err-shape_fits.field-0.text.items c.in-Ok.rec c.in-Err-shape_fits.wrong.at c.in-Ok.ensures.read c.in-Ok.ensures.only c.in-Err-shape_fits.ensures h.1 in
    (h.0, u.none, u.line)
