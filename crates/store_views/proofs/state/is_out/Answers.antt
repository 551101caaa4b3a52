use Rattle.std.proofs.Common.{ap}
use Rattle.ucis_model.specs.declared.answers.CoverRow.{CoverRow}
use Rattle.store_views.proofs.state.is_out.Goals as goal

pub returns : goal.returns
returns c = ap (λ (row : CoverRow). row.excluded) c.in_ok-row.ensures
