use Rattle.session_table.proofs.Found.{no_record_refuses, shape_refuses}
use Rattle.answer_frames.proofs.Writing.{shape_writable}
use Rattle.session_table.proofs.finding.record_of.Goals as goal

pub returns-in-Err : goal.returns-in-Err
returns-in-Err c = (no_record_refuses c.args.opening.now c.args.bytes.now c.in-Err.fault c.no_record.result c.in-Err.ensures.told c.no_record.ensures.body, c.no_record.ensures.writable)

pub returns-in-Err-shape_fits : goal.returns-in-Err-shape_fits
returns-in-Err-shape_fits c = (shape_refuses c.args.opening.now c.args.bytes.now c.in-Ok.rec c.in-Err-shape_fits.wrong.at c.in-Ok.ensures.told c.in-Err-shape_fits.ensures, shape_writable c.in-Err-shape_fits.wrong.at)
