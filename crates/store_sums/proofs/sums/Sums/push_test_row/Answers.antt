use Rattle.std.proofs.Common.{◌∙◌, ◌++◌, ◌∷◌, [], ap}
use Rattle.tally.specs.Rows.{count_in}
use Rattle.ucis_model.specs.declared.answers.CountRow.{CountRow}
use Rattle.store_sums.specs.declared.branches.Facts.{Facts}
use Rattle.store_sums.proofs.sums.Sums.push_test_row.Goals as goal

pub returns : goal.returns
returns c =
    let tally = c.args.tally.now in
    c.in_ok-push.ensures.items ∙ ap (λ (row : CountRow). c.args.list.now.items ++ row ∷ []) (c.count_row.ensures (count_in tally) (c.get-count.ensures ∙ ap (λ (f : Facts). count_in tally f.first_bin) c.facts.ensures))
