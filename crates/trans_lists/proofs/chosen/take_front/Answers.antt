use Rattle.std.proofs.Common.{rules, ◌≡◌, subst}
use Rattle.trans_found.specs.Found.{Takes, FailsAfter, lists_of}
use Rattle.trans_found.specs.Held.{begun, words}
use Rattle.trans_lists.proofs.ChosenLemmas.{begun-words}
use Rattle.trans_lists.proofs.chosen.take_front.Goals as goal

pub returns-in_err-take_items-clause-err : goal.returns-in_err-take_items-clause-err
returns-in_err-take_items-clause-err c =
    let front = c.args.front.now in
    let before = lists_of c.args.found.now in
    let first = c.new-first.result.items in
    let e = c.in_err-take_items.field-0.0 in
    let same : begun first front ≡ words front = begun-words first front c.new-first.ensures.items in
    let failed : FailsAfter before (words front) e = subst (λ ws. FailsAfter before ws e) same c.in_err-take_items.ensures.err in
    search (rules, failed)

pub returns-clause-ok : goal.returns-clause-ok
returns-clause-ok c =
    subst (λ ws. Takes c.args.found.now c.take_items.new.found ws) (begun-words c.new-first.result.items c.args.front.now c.new-first.ensures.items) c.in_ok-take_items.ensures.ok
