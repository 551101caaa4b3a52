use Rattle.std.proofs.Common.{rules, append_assoc, append-nil}
use Rattle.std.proofs.lemmas.Result.{IfOk-equal}
use Rattle.ucis_elements.specs.Items.{instance_options}
use Rattle.ucis_elements.proofs.options.append_instance_options.Goals as goal

pub returns : goal.returns
unfolding instance_options
returns c = search (rules, IfOk-equal, append_assoc, append-nil)
