use Rattle.std.proofs.Common.{ap, ◌∙◌, length, List, ℕ, arith}
use Rattle.store_sums.proofs.Children.{bins_few}
use Rattle.store_sums.proofs.branches.Branches.bins.Goals as goal

pub returns-clause-few : goal.returns-clause-few
returns-clause-few c =
    let e = ap (λ (xs : List ℕ). length xs) (c.as_slice.ensures.value ∙ c.self.invariant.0) in
    omega (arith, e, bins_few c.self.inside.tree, c.self.invariant.3)
