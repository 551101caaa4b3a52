use Rattle.history_answers.proofs.Amounting.{legal_short}
use Rattle.history_answers.proofs.answering.answer_by_definition.Goals as goal

pub table-requires-clause-few : goal.table-requires-clause-few
table-requires-clause-few g c k l = legal_short c.args.opening.now c.args.entries.now c.requires
