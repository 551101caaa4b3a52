use Rattle.std.proofs.Common.{subst}
use Rattle.cov_base.specs.Sets.{IsNormalForm}
use Rattle.cov_base.proofs.Laws.{set_is, set_is_one}
use Rattle.cov_base.proofs.Stores.{normal_in}
use Rattle.cov_base.proofs.sets.ValueSet.intervals.Goals as goal

pub returns-clause-normal : goal.returns-clause-normal
returns-clause-normal c = subst IsNormalForm c.self.view_is (normal_in c.self.inside.kept c.self.invariant)

pub returns-clause-set_of_written : goal.returns-clause-set_of_written
returns-clause-set_of_written c = set_is _ (returns-clause-normal c)

pub returns-clause-unique : goal.returns-clause-unique
returns-clause-unique c = λ other is same. set_is_one other _ is (returns-clause-normal c) same
