use Rattle.std.proofs.Common.{arith}
use Rattle.ucis_model.specs.declared.answers.Which.TheVariants.{History}
use Rattle.history_answers.proofs.changes.with_path.Goals as goal

pub overflow_add-result : goal.overflow_add-result
overflow_add-result c = let most = c.requires History in omega (arith, most)
