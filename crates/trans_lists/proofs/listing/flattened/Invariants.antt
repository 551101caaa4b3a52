use Rattle.std.proofs.Common.{◌≡◌}
use Rattle.trans_found.specs.Lists.{all_of}
use Rattle.trans_lists.proofs.listing.flattened.Given as goal

abbrev pub invariant-loop-group : goal.invariant-loop-group
invariant-loop-group l = l.lists.items ≡ all_of l.yielded
