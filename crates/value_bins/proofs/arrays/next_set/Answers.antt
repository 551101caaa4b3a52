use Rattle.std.proofs.Common.{◌≡◌, subst, List, ℤ, IfOk}
use Rattle.cov_base.specs.Sets.{set_of}
use Rattle.value_bins.proofs.Taking.{first_taken}
use Rattle.value_bins.proofs.arrays.next_set.Goals as goal

pub returns-clause-set : goal.returns-clause-set
returns-clause-set c =
    let is = first_taken _ _ _ _ c.new-bin.ensures.items c.in_ok-take_numbers.ensures.taken c.as_slice.ensures.value in
    subst (λ (xs : List ℤ). IfOk c.from_ranges.result (λ set. set ≡ set_of xs)) is c.from_ranges.ensures.set
