use Rattle.std.proofs.Common.{sym, subst}
use Rattle.design_data.specs.declared.infos.BinRule.{BinRule}
use Rattle.point_tables.specs.Tables.{IsQuestionOf}
use Rattle.point_tables.proofs.questions.question_of.Goals as goal

pub returns-in-Values : goal.returns-in-Values
returns-in-Values c = subst (λ (r : BinRule). IsQuestionOf c.args.typ r c.by_set.result) (sym c.in-Values.is) (c.by_set.ensures c.args.typ)
