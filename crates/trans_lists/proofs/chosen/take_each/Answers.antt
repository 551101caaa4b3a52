use Rattle.std.proofs.Common.{rules, ◌≡◌}
use Rattle.trans_found.specs.Alone.{groups_ahead}
use Rattle.trans_found.specs.Found.{FailsAfter, lists_of}
use Rattle.trans_found.specs.Lists.{all_of, by_lengths, listed, news}
use Rattle.trans_found.proofs.HeldLemmas.{takes-same, fails-same}
use Rattle.trans_lists.proofs.ChosenLemmas.{chosen-listed}
use Rattle.trans_lists.proofs.chosen.take_each.Goals as goal

pub returns-in_err-take_choices-clause-err : goal.returns-in_err-take_choices-clause-err
returns-in_err-take_choices-clause-err c =
    let items = c.args.items.now in
    let front = c.new-front.result.items in
    let before = lists_of c.args.found.now in
    let e = c.in_err-take_choices.field-0.0 in
    let made = all_of (groups_ahead front (by_lengths items)) in
    let same : news before made ≡ news before (listed items) = chosen-listed items front before c.new-front.ensures.items in
    let failed : FailsAfter before (listed items) e = fails-same before made (listed items) e same c.in_err-take_choices.ensures.err in
    search (rules, failed)

pub returns-clause-ok : goal.returns-clause-ok
returns-clause-ok c =
    let items = c.args.items.now in
    let front = c.new-front.result.items in
    takes-same c.args.found.now c.take_choices.new.found (all_of (groups_ahead front (by_lengths items))) (listed items)
    (chosen-listed items front (lists_of c.args.found.now) c.new-front.ensures.items) c.in_ok-take_choices.ensures.ok
