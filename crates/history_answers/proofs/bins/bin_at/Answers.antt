use Rattle.history_answers.proofs.Inside.{some_inside}
use Rattle.history_answers.proofs.bins.bin_at.Goals as goal

pub returns-clause-inside : goal.returns-clause-inside
returns-clause-inside c = some_inside c.args.nodes.now c.args.number c.number_at.result c.number_at.ensures
