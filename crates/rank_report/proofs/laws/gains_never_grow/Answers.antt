use Rattle.rank_report.proofs.NeverGrow.{gains_never_grow}
use Rattle.rank_report.proofs.laws.gains_never_grow.Goals as goal

pub returns : goal.returns
returns c tests wanted ranked row index = gains_never_grow tests wanted ranked row index
