use Rattle.std.proofs.Common.{◌≡◌, []}
use Rattle.name_map.specs.Names.{with_names}
use Rattle.name_map.proofs.names.NameMap.of.Given as goal

abbrev pub invariant-loop-pair : goal.invariant-loop-pair
invariant-loop-pair g l = l.names ≡ with_names [] l.yielded
