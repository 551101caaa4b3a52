use Rattle.std.proofs.Common.{rules, append_assoc, append-nil}
use Rattle.std.proofs.lemmas.Result.{IfOk-equal}
use Rattle.ucis_elements.specs.Items.{group_id}
use Rattle.ucis_elements.proofs.heads.append_group_id.Goals as goal

pub returns : goal.returns
unfolding group_id
returns c = search (rules, IfOk-equal, append_assoc, append-nil)
