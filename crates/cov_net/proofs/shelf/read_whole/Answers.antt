use Rattle.std.proofs.Common.{◌≡◌, length, vec_len, rules}
use Rattle.cov_net.proofs.Growing.{grown}
use Rattle.cov_net.proofs.shelf.read_whole.Goals as goal

pub returns-in-Err-clause-refusal : goal.returns-in-Err-clause-refusal
returns-in-Err-clause-refusal g c =
    let kept : vec_len c.loop-file.bytes ≡ length c.loop-file.bytes.items = search rules in
    let room : length c.as_mut_slice.result.now ≡ 65536 = search rules in
    grown g.F.Read.remaining g.F.ReadCall.reads c.args.file.now c.loop-file.file c.append_piece.new.file c.loop-file.bytes.items (vec_len c.loop-file.bytes) c.args.most 65536 c.in-Err.cause kept c.loop-file.invariant.bytes (rw room at c.in-Err.ensures.refusal)
