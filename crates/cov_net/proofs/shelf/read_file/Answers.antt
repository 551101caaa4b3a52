use Rattle.cov_net.proofs.Loading.{not_opened, not_told}
use Rattle.cov_net.proofs.shelf.read_file.Goals as goal

pub returns-in-Err-clause-loaded : goal.returns-in-Err-clause-loaded
returns-in-Err-clause-loaded g c =
    not_opened (g.D.Disk.opens c.args.name.now) g.D.Disk.tells g.D.Opened.Read.remaining g.D.Opened.ReadCall.reads c.args.most 65536 c.in-Err.error c.refusal_of.result c.in-Err.ensures.answer c.refusal_of.ensures.cause

pub returns-in-Err-metadata_again-clause-loaded : goal.returns-in-Err-metadata_again-clause-loaded
returns-in-Err-metadata_again-clause-loaded g c =
    not_told (g.D.Disk.opens c.args.name.now) g.D.Disk.tells g.D.Opened.Read.remaining g.D.Opened.ReadCall.reads c.args.most 65536 c.in-Ok.file c.in-Err-metadata_again.error c.refusal_of-in-Err-metadata_again.result c.in-Ok.ensures.answer c.in-Err-metadata_again.ensures.answer c.refusal_of-in-Err-metadata_again.ensures.cause
