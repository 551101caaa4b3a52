use Rattle.std.proofs.Common.{rules, append_assoc, append-nil}
use Rattle.std.proofs.lemmas.Result.{IfOk-equal}
use Rattle.ucis_elements.specs.Bins.{range_element}
use Rattle.ucis_elements.proofs.rules.append_range.Goals as goal

pub returns : goal.returns
unfolding range_element
returns c = search (rules, IfOk-equal, append_assoc, append-nil)
