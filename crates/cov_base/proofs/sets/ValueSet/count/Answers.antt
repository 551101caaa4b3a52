use Rattle.std.proofs.Common.{◌∙◌, arith, ap, length, List, ℤ}
use Rattle.cov_base.specs.Sets.{written}
use Rattle.cov_base.proofs.Stores.{count_is, count_few}
use Rattle.cov_base.proofs.sets.ValueSet.count.Goals as goal

pub returns-clause-value : goal.returns-clause-value
returns-clause-value c = c.total.ensures ∙ count_is c.self.inside.kept ∙ ap (λ (rs : List (ℤ × ℤ)). length (written rs)) c.self.view_is

pub returns-clause-bound : goal.returns-clause-bound
returns-clause-bound c = omega (arith, c.total.ensures, count_few c.self.inside.kept c.self.invariant)
