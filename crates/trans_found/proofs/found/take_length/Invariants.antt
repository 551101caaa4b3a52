use Rattle.std.proofs.Common.{◌≡◌, [], take, map}
use Rattle.cov_base.specs.Sets.{written}
use Rattle.trans_found.specs.Lists.{choices, joined}
use Rattle.trans_found.specs.Found.{Extends}
use Rattle.trans_found.proofs.found.take_length.Given as goal

abbrev pub invariant-loop-group : goal.invariant-loop-group
invariant-loop-group l = record {
  first : l.first.items ≡ [];
  extends : Extends l.initial.found l.found (map (λ g. joined (choices (written l.set) l.size) g) (take l.group-index l.groups));
}
