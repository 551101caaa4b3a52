use Rattle.std.proofs.Common.{rules, []}
use Rattle.trans_found.specs.Lists.{lists_by_all}
use Rattle.trans_found.specs.Found.{FailsAfter}
use Rattle.trans_lists.proofs.MetLemmas.{merges_more, merges_held, fails_more}
use Rattle.trans_lists.proofs.listing.take_seq.Goals as goal

pub returns-then-held-clause-ok : goal.returns-then-held-clause-ok
returns-then-held-clause-ok c =
    merges_held c.args.seqs.now c.args.place c.index-seqs-place.result c.args.found.now c.requires.within c.index-seqs-place.is c.requires.merges c.requires.bounded
    (c.in_ok-held.ensures c.if-held.true)

pub returns-in_err-take_lists-clause-err : goal.returns-in_err-take_lists-clause-err
returns-in_err-take_lists-clause-err c =
    let seqs = c.args.seqs.now in
    let e = c.in_err-take_lists.field-0.0 in
    let all : FailsAfter [] (lists_by_all seqs) e =
    fails_more seqs c.args.place c.index-seqs-place.result c.args.found.now c.requires.within c.index-seqs-place.is c.requires.merges e c.in_err-take_lists.ensures.err in
    search (rules, all)

pub returns-clause-ok : goal.returns-clause-ok
returns-clause-ok c =
    merges_more c.args.seqs.now c.args.place c.index-seqs-place.result c.args.found.now c.requires.within c.index-seqs-place.is c.requires.merges c.take_lists.new.found c.in_ok-take_lists.ensures.ok
