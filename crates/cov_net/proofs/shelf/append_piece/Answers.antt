use Rattle.std.proofs.Common.{length, vec_len}
use Rattle.cov_net.proofs.Growing.{read_failed}
use Rattle.cov_net.proofs.shelf.append_piece.Goals as goal

pub returns-in-Err-clause-refusal : goal.returns-in-Err-clause-refusal
returns-in-Err-clause-refusal g c =
    read_failed g.F.Read.remaining g.F.ReadCall.reads c.args.file.now c.read_again.new.reader c.args.room.now c.read_again.new.into c.in-Err.error (vec_len c.args.bytes.now) c.args.most (length c.args.room.now) c.refusal_of.result c.in-Err.ensures.answer c.refusal_of.ensures.cause
