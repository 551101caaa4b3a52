use Rattle.std.proofs.Common.{◌∙◌}
use Rattle.const_eval.proofs.scope.found.Goals as goal

pub returns : goal.returns
returns c = c.copied.ensures ∙ c.get.ensures
