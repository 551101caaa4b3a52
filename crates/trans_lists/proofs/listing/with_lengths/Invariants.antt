use Rattle.std.proofs.Common.{◌+◌, ◌-◌, take, map}
use Rattle.std.specs.List.{flat_map}
use Rattle.cov_base.specs.Sets.{written}
use Rattle.trans_found.specs.Lists.{from_on, choices, joined}
use Rattle.trans_found.specs.Found.{Extends}
use Rattle.trans_lists.proofs.listing.with_lengths.Given as goal

abbrev pub invariant-loop-size : goal.invariant-loop-size
invariant-loop-size l = Extends l.initial.found l.found (flat_map (λ n. map (λ g. joined (choices (written l.set) n) g) l.groups) (take (l.size - l.low) (from_on l.low (l.high + 1 - l.low))))
