use Rattle.std.proofs.Common.{◌≡◌, take}
use Rattle.std.specs.List.{flat_map}
use Rattle.cov_design.specs.Events.{variable_pair}
use Rattle.cov_design.proofs.events.variables.Given as goal

abbrev pub invariant-loop-decl : goal.invariant-loop-decl
invariant-loop-decl l = l.names.items ≡ flat_map (variable_pair l.scope) (take l.decl-index l.text)
