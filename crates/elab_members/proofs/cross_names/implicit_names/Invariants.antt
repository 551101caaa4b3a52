use Rattle.std.proofs.Common.{◌≡◌, [], drop}
use Rattle.elab_members.specs.CrossNames.{around_cross, implicit_names}
use Rattle.elab_members.proofs.cross_names.implicit_names.Given as goal

abbrev pub invariant-loop-name : goal.invariant-loop-name
invariant-loop-name l = implicit_names (around_cross l.outside l.inside l.items) (drop l.name-index l.names) l.made ≡ implicit_names (around_cross l.outside l.inside l.items) l.names []
