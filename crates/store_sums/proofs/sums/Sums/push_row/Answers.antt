use Rattle.std.proofs.Common.{◌∙◌, ◌++◌, ◌∷◌, [], ap}
use Rattle.ucis_model.specs.declared.answers.CountRow.{CountRow}
use Rattle.store_sums.specs.Now.{count_now}
use Rattle.store_sums.proofs.sums.Sums.push_row.Goals as goal

pub returns : goal.returns
returns c = c.in_ok-push.ensures.items ∙ ap (λ (row : CountRow). c.args.list.now.items ++ row ∷ []) (c.count_row.ensures (count_now c.args.self.now) c.count.ensures)
