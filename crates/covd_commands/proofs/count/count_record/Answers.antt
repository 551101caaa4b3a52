use Rattle.std.proofs.lemmas.Result.{IfOk-weaker}
use Rattle.record_codec.proofs.RecordLaws.{no_fault}
use Rattle.covd_commands.proofs.Records as records
use Rattle.covd_commands.proofs.count.count_record.Goals as goal

pub returns-in-Ok-shape_fits : goal.returns-in-Ok-shape_fits
returns-in-Ok-shape_fits c = IfOk-weaker c.counted.result _ _ (λ a h. records.done c.args.design.now c.args.bytes.now c.in-Ok.decoded a.status a.text.items c.in-Ok.ensures.read c.in-Ok-shape_fits.ensures h) c.counted.ensures

pub returns-in-Ok : goal.returns-in-Ok
returns-in-Ok c = IfOk-weaker c.refused.result _ _ (λ a h. records.unfit c.args.design.now c.args.bytes.now c.in-Ok.decoded c.in-Err-shape_fits.wrong.at a.status a.text.items c.in-Ok.ensures.read c.in-Ok.ensures.only c.in-Err-shape_fits.ensures h) c.refused.ensures

pub returns : goal.returns
returns c = IfOk-weaker c.undecoded.result _ _ (λ a h. records.undecoded c.args.design.now c.args.bytes.now c.in-Err.fault a.status a.text.items (no_fault c.args.bytes.now) c.in-Err.ensures.told h) c.undecoded.ensures
