use Rattle.std.proofs.Common.{rules, ◌≡◌, subst}
use Rattle.trans_found.specs.Lists.{listed}
use Rattle.trans_found.specs.Found.{Takes, FailsAfter, lists_of}
use Rattle.trans_found.proofs.HeldLemmas.{fails-expanded}
use Rattle.trans_lists.proofs.listing.take_expanded.Goals as goal

pub returns-in_err-lists-clause-err : goal.returns-in_err-lists-clause-err
returns-in_err-lists-clause-err c =
    let items = c.args.seq.now.items in
    let e = c.in_err-lists.field-0.0 in
    let failed : FailsAfter (lists_of c.args.found.now) (listed items) e = fails-expanded (lists_of c.args.found.now) items e c.requires.bounded c.requires.short c.in_err-lists.ensures.refuses in
    search (rules, failed)

pub returns-in_err-take_all-clause-err : goal.returns-in_err-take_all-clause-err
returns-in_err-take_all-clause-err c =
    let items = c.args.seq.now.items in
    let found = c.args.found.now in
    let e = c.in_err-take_all.field-0.0 in
    let same : c.in_ok-lists.lists.items ≡ listed items = c.in_ok-lists.ensures.lists.are in
    let failed : FailsAfter (lists_of found) (listed items) e = subst (λ ws. FailsAfter (lists_of found) ws e) same c.in_err-take_all.ensures.err in
    search (rules, failed)

pub returns-clause-ok : goal.returns-clause-ok
returns-clause-ok c =
    let items = c.args.seq.now.items in
    let found = c.args.found.now in
    let same : c.in_ok-lists.lists.items ≡ listed items = c.in_ok-lists.ensures.lists.are in
    subst (λ ws. Takes found c.take_all.new.found ws) same c.in_ok-take_all.ensures.ok
