use Rattle.std.proofs.Common.{◌<◌, arith}
use Rattle.trans_lists.proofs.MetLemmas.{repeated}
use Rattle.trans_lists.proofs.met.is_repeated.Goals as goal

pub returns : goal.returns
returns c = λ same.
    let before : c.args.first < c.args.place = omega (arith, c.if-first-place.false) in
    repeated c.args.seqs.now c.args.first c.args.place c.index-seqs-place.result c.index-seqs-first.result before c.requires c.index-seqs-place.is c.index-seqs-first.is (c.is_same.ensures.0 same)
