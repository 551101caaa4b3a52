-- What a change is answered by the amounts before it and after.
use Rattle.std.specs.Prelude.{Option, Some, None}
use Rattle.ucis_model.specs.declared.answers.Answer.{Answer}
use Rattle.ucis_model.specs.declared.answers.Answer.TheVariants as answers
use Rattle.ucis_model.specs.declared.answers.Which.{Which}
use Rattle.cov_history.specs.Amounts.{Amounts, amount_in}

-- what a change is answered whose amounts before and after are these
abbrev pub told_by : (before after : Amounts) → Option Which → Answer → Answer
told_by before after None made = made
told_by before after (Some which) made = answers.Full which (amount_in before which) (amount_in after which)
