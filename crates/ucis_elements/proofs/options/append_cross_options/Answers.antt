use Rattle.std.proofs.Common.{rules, append_assoc, append-nil}
use Rattle.std.proofs.lemmas.Result.{IfOk-equal}
use Rattle.ucis_elements.specs.Items.{cross_options}
use Rattle.ucis_elements.proofs.options.append_cross_options.Goals as goal

pub returns : goal.returns
unfolding cross_options
returns c = search (rules, IfOk-equal, append_assoc, append-nil)
